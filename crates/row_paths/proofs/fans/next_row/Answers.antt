use Rattle.std.proofs.Common.{arith, ◌≡◌, ℕ, ◌+◌, ◌<◌, List, length, map, get_or, sym, ap, ◌∙◌}
use Rattle.row_paths.specs.Searches.{bound_at, last_at}
use Rattle.row_paths.proofs.Places.{bound_at-read, bound_read}
use Rattle.row_paths.proofs.FanLaws.{reached_at}
use Rattle.row_paths.proofs.fans.next_row.Given as given
use Rattle.row_paths.proofs.fans.next_row.Goals as goal
use Rattle.row_paths.proofs.fans.next_row.Goals.{After-row-row}

-- the bounds of this row and the next one, as they are read
record AreBounds (lo hi : List ℕ) (x row : ℕ) : Type 0 where
  first : bound_at lo (x + 1) ≡ get_or lo (row + 1) 0
  middle : last_at hi x ≡ get_or hi (row + 1) 0
  last : last_at hi (x + 1) ≡ get_or hi (row + 2) 0

bounds : (g : given.Over) (c : After-row-row g)
    → AreBounds c.args.region.now.lo.now c.args.region.now.hi.now c.args.above.now.row c.row-row.result
bounds g c =
    let x = c.args.above.now.row in
    let hi = c.args.region.now.hi.now in
    let within : x + 1 + 1 < length hi = omega (arith, c.requires.row, c.args.region.now.hi_fits) in
    let e : x + 1 + 1 ≡ c.row-row.result + 2 = omega (arith, c.row-row.ensures) in
    record {
      first = bound_read c.args.region.now.lo.now x c.row-row.result c.row-row.ensures
          (omega (arith, c.requires.row, c.args.region.now.lo_fits));
      middle = bound_read hi x c.row-row.result c.row-row.ensures (omega (arith, within));
      last = bound_at-read hi (x + 1 + 1) within ∙ ap (λ (k : ℕ). get_or hi k 0) e;
    }

pub enter-requires-clause-first : goal.enter-requires-clause-first
enter-requires-clause-first g c =
    omega (arith, (bounds g (goal.at.enter-requires-clause-first g c).After-row-row).first, c.max-first.ensures)

pub enter-requires-clause-within : goal.enter-requires-clause-within
enter-requires-clause-within g c =
    let b = bounds g (goal.at.enter-requires-clause-within g c).After-row-row in
    let joined = c.args.region.now.shape.joined c.args.above.now.row in
    omega (arith, b.first, c.max-first.ensures, joined, c.requires.left)

pub enter-requires-clause-reached : goal.enter-requires-clause-reached
enter-requires-clause-reached g c = c.requires.reached

pub choose_on-requires-clause-from : goal.choose_on-requires-clause-from
choose_on-requires-clause-from g c =
    omega (arith, (bounds g (goal.at.choose_on-requires-clause-from g c).After-row-row).first, c.max-first.ensures)

pub choose_on-requires-clause-last : goal.choose_on-requires-clause-last
choose_on-requires-clause-last g c = sym (bounds g (goal.at.choose_on-requires-clause-last g c).After-row-row).middle

pub choose_on-requires-clause-order : goal.choose_on-requires-clause-order
choose_on-requires-clause-order g c =
    let b = bounds g (goal.at.choose_on-requires-clause-order g c).After-row-row in
    let joined = c.args.region.now.shape.joined c.args.above.now.row in
    omega (arith, b.first, b.middle, c.max-first.ensures, joined, c.requires.left)

pub choose_on-requires-clause-reached : goal.choose_on-requires-clause-reached
choose_on-requires-clause-reached g c = c.enter.ensures.reached

pub choose_on-requires-clause-after : goal.choose_on-requires-clause-after
choose_on-requires-clause-after g c = c.enter.ensures.after

pub go_on-requires-clause-from : goal.go_on-requires-clause-from
go_on-requires-clause-from g c =
    let b = bounds g (goal.at.go_on-requires-clause-from g c).After-row-row in
    let joined = c.args.region.now.shape.joined c.args.above.now.row in
    omega (arith, b.middle, joined, c.requires.left, ap (bound_at c.args.region.now.lo.now) c.requires.next)

pub go_on-requires-clause-last : goal.go_on-requires-clause-last
go_on-requires-clause-last g c =
    let b = bounds g (goal.at.go_on-requires-clause-last g c).After-row-row in
    omega (arith, b.last, c.args.region.now.shape.within (c.args.above.now.row + 1))

pub go_on-requires-clause-order : goal.go_on-requires-clause-order
go_on-requires-clause-order g c =
    let b = bounds g (goal.at.go_on-requires-clause-order g c).After-row-row in
    omega (arith, b.last, b.middle, c.args.region.now.shape.rises c.args.above.now.row)

pub go_on-requires-clause-shut : goal.go_on-requires-clause-shut
go_on-requires-clause-shut g c = λ k is lt.
    let b = bounds g (goal.at.go_on-requires-clause-shut g c).After-row-row in
    let e : k ≡ c.args.above.now.row = omega (arith, is, c.requires.next) in
    omega (arith, b.middle, ap (last_at c.args.region.now.hi.now) e)

pub go_on-requires-clause-reached : goal.go_on-requires-clause-reached
go_on-requires-clause-reached g c =
    reached_at g.C.Sum.Amount.MOST c.args.from.now.strip c.args.above.now.strip (bound_at c.args.region.now.lo.now)
    (last_at c.args.region.now.hi.now) c.args.region.now.start c.args.left c.args.from.now.row
    (c.args.above.now.row + 1) (map g.C.Sum.Amount.value c.choose_on.new.sums) _ _ c.requires.strip c.requires.next
    (omega arith) c.choose_on.ensures.reached

pub returns-clause-reached : goal.returns-clause-reached
returns-clause-reached g c =
    let x = c.args.above.now.row in
    let hi = last_at c.args.region.now.hi.now in
    let b = bounds g (goal.at.returns-clause-reached g c).After-row-row in
    reached_at g.C.Sum.Amount.MOST c.args.above.now.strip c.args.from.now.strip (bound_at c.args.region.now.lo.now) hi
    c.args.region.now.start c.args.left (x + 1) c.args.from.now.row (map g.C.Sum.Amount.value c.go_on.new.sums)
    (hi (x + 1)) _ (sym c.requires.strip) (sym c.requires.next) (omega (arith, b.last)) c.go_on.ensures.reached

pub returns-clause-count : goal.returns-clause-count
returns-clause-count g c =
    let x = c.args.above.now.row in
    let b = bounds g (goal.at.returns-clause-count g c).After-row-row in
    omega (
      arith,
      b.last,
      b.middle,
      b.first,
      c.max-first.ensures,
      c.enter.ensures.count,
      c.choose_on.ensures.count,
      c.go_on.ensures.count,
      c.args.region.now.shape.rises x,
      c.args.region.now.shape.joined x,
      c.requires.left,
    )
