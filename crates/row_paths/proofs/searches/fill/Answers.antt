use Rattle.std.proofs.Common.{arith, ◌≡◌, ℕ, ◌+◌, ◌-◌, ◌*◌, ◌≤◌, map, sym, ap, length, length-set, ◌∙◌}
use Rattle.std.proofs.lemmas.List.{length-map, map-set}
use Rattle.row_paths.specs.Counts.{area}
use Rattle.strip_graph.specs.Strips.{arcs}
use Rattle.row_paths.specs.StripCosts.{largest}
use Rattle.row_paths.specs.Searches.{bound_at, last_at}
use Rattle.row_paths.proofs.BoundLaws.{lt_eq, some_of, back_in}
use Rattle.row_paths.proofs.AmountLaws.{read_is}
use Rattle.row_paths.proofs.Rows.{costs_at, filled_end, filled_row, area_up}
use Rattle.row_paths.proofs.StartLaws.{starts_first, starts_more}
use Rattle.row_paths.proofs.searches.fill.Goals as goal

pub loop-k-init : goal.loop-k-init
loop-k-init g c =
    let p = c.args.strip.now in
    let b = largest g.C.Sum.Amount.MOST p in
    let value = g.C.Sum.Amount.value in
    let lo = bound_at c.args.region.now.lo.now in
    let hi = last_at c.args.region.now.hi.now in
    let end = c.args.region.now.end in
    let n = c.args.region.now.width in
    let all : end - 0 ≡ end = omega arith in
    let filled = filled_end g.C.Sum.Amount.MOST p c.row-from.result.strip lo hi end n (end - 0)
    (map value c.fill_end.new.sums) c.fill_end.new.ways (sym c.row-from.ensures.strip) all c.fill_end.ensures.costs
    c.fill_end.ensures.ways in
    let first = read_is value c.fill_end.new.sums 0 c.index-sums-0.result c.index-sums-0.is
    (omega (arith, c.requires.room.sums, c.fill_end.auto.sums)) in
    record {
      costs = filled.0;
      starts = rw map-set (starts_first b (arcs p) lo hi end n (end - 0) (map value c.fill_end.new.sums)
          (map value c.args.starts.now) (value c.index-sums-0.result) first all
          (omega (arith, c.requires.starts, length-map c.args.starts.now value)) filled.0);
      ways = filled.1;
      count = omega (
        arith,
        c.fill_end.ensures.count,
        c.args.region.now.shape.ends,
        area_up lo hi (end - 0) 0,
        ap hi all,
        ap lo all,
      );
    }

pub fill_end-requires-clause-room : goal.fill_end-requires-clause-room
fill_end-requires-clause-room g c = rw c.row-from.ensures.strip c.requires.room

pub fill_row-requires-clause-room : goal.fill_row-requires-clause-room
fill_row-requires-clause-room g c =
    rw (c.row-from-in-loop-k.ensures.strip, c.loop-k.auto.sums, c.fill_end.auto.sums) c.requires.room

pub fill_row-requires-clause-ways : goal.fill_row-requires-clause-ways
fill_row-requires-clause-ways g c = rw (c.loop-k.auto.ways, c.fill_end.auto.ways) c.requires.ways

pub fill_row-requires-clause-row : goal.fill_row-requires-clause-row
fill_row-requires-clause-row g c = omega (arith, c.row-from-in-loop-k.ensures.row, c.loop-k-test.true)

pub fill_row-requires-clause-below : goal.fill_row-requires-clause-below
fill_row-requires-clause-below g c =
    let end = c.args.region.now.end in
    costs_at g.C.Sum.Amount.MOST c.row-from-in-loop-k.result.strip c.args.strip.now (bound_at c.args.region.now.lo.now)
    (last_at c.args.region.now.hi.now) end c.args.region.now.width (c.row-from-in-loop-k.result.row + 1)
    (end - c.loop-k.k) (map g.C.Sum.Amount.value c.loop-k.sums)
    c.row-from-in-loop-k.ensures.strip (omega (arith, c.row-from-in-loop-k.ensures.row, c.loop-k-test.true))
    c.loop-k.invariant.costs

pub loop-k-preserved : goal.loop-k-preserved
loop-k-preserved g c =
    let p = c.args.strip.now in
    let b = largest g.C.Sum.Amount.MOST p in
    let value = g.C.Sum.Amount.value in
    let lo = bound_at c.args.region.now.lo.now in
    let hi = last_at c.args.region.now.hi.now in
    let end = c.args.region.now.end in
    let n = c.args.region.now.width in
    let x : ℕ = end - 1 - c.loop-k.k in
    let y = c.row-from-in-loop-k.result.row in
    let next : end - (c.loop-k.k + 1) ≡ x = omega arith in
    let row : x ≡ y = omega (arith, c.row-from-in-loop-k.ensures.row) in
    let above : end - c.loop-k.k ≡ x + 1 = omega (arith, c.loop-k-test.true) in
    let filled = filled_row g.C.Sum.Amount.MOST p c.row-from-in-loop-k.result.strip lo hi end n x y (end - c.loop-k.k)
    (map value c.fill_row.new.sums) c.loop-k.ways c.fill_row.new.ways (sym c.row-from-in-loop-k.ensures.strip) row
    above (omega arith)
    c.args.region.now.shape.within c.fill_row.ensures.costs c.fill_row.ensures.ways c.fill_row.ensures.rest
    c.loop-k.invariant.ways in
    let size : length (map value c.loop-k.starts) ≡ length c.args.starts.now = length-map c.loop-k.starts value
    ∙ c.loop-k.auto.starts ∙ length-set c.args.starts.now end c.index-sums-0.result in
    let first = read_is value c.fill_row.new.sums 0 c.index-sums-0-in-loop-k.result c.index-sums-0-in-loop-k.is
    (omega (arith, c.requires.room.sums, c.fill_row.auto.sums, c.loop-k.auto.sums, c.fill_end.auto.sums)) in
    record {
      costs = rw next filled.0;
      starts = rw (next, map-set) (starts_more b (arcs p) lo hi end n x (end - c.loop-k.k)
          (map value c.fill_row.new.sums) (map value c.loop-k.starts) (value c.index-sums-0-in-loop-k.result) first
          above (omega (arith, size, c.requires.starts)) filled.0 c.loop-k.invariant.starts);
      ways = rw next filled.1;
      count = omega (
        arith,
        c.loop-k.invariant.count,
        c.fill_row.ensures.count,
        area_up lo hi x (c.loop-k.k + 1),
        ap (λ (k : ℕ). area lo hi k (c.loop-k.k + 1)) above,
        ap (λ (k : ℕ). area lo hi k (c.loop-k.k + 1 + 1)) next,
        ap hi row,
        ap lo row,
      );
    }

pub returns-clause-ways : goal.returns-clause-ways
returns-clause-ways g c = λ y from to. c.loop-k.invariant.ways y (omega (arith, from, c.loop-k-test.false)) to

pub returns-clause-starts : goal.returns-clause-starts
returns-clause-starts g c = λ y from to is. c.loop-k.invariant.starts y (omega (arith, from, c.loop-k-test.false)) to is

-- all rows are counted
all_up : (lo hi : ℕ → ℕ) (start end k steps old : ℕ) → start ≤ end → k ≡ end - start
    → steps ≤ old + 2 * area lo hi (end - k) (k + 1) → steps ≤ old + 2 * area lo hi start (end + 1 - start)
all_up lo hi start end k steps old le e count =
    let x : end - k ≡ start = omega arith in
    let n : k + 1 ≡ end + 1 - start = omega arith in
    omega (arith, count, ap (λ (y : ℕ). area lo hi y (k + 1)) x, ap (area lo hi start) n)

pub returns-clause-count : goal.returns-clause-count
returns-clause-count g c = all_up (bound_at c.args.region.now.lo.now) (last_at c.args.region.now.hi.now)
    c.args.region.now.start c.args.region.now.end c.loop-k.k c.loop-k.steps c.args.steps.now c.args.region.now.order
    (omega (arith, c.loop-k-test.false, c.loop-k.auto.k-end)) c.loop-k.invariant.count

pub bounds-sums-0 : goal.bounds-sums-0
bounds-sums-0 g c = some_of (lt_eq c.requires.room.sums c.fill_end.auto.sums)

pub bounds-starts-region : goal.bounds-starts-region
bounds-starts-region g c = c.requires.starts

pub row-from-requires-in-loop-k : goal.row-from-requires-in-loop-k
row-from-requires-in-loop-k g c = back_in c.loop-k.k c.requires.room.end

pub bounds-sums-0-in-loop-k : goal.bounds-sums-0-in-loop-k
bounds-sums-0-in-loop-k g c = some_of
    (lt_eq (lt_eq (lt_eq c.requires.room.sums c.fill_end.auto.sums) c.loop-k.auto.sums) c.fill_row.auto.sums)

pub bounds-starts-row : goal.bounds-starts-row
bounds-starts-row g c = lt_eq (back_in c.loop-k.k c.requires.starts)
    (c.loop-k.auto.starts ∙ length-set c.args.starts.now c.args.region.now.end c.index-sums-0.result)
