use Rattle.std.proofs.Common.{arith, ◌≡◌, ℕ, refl}
use Rattle.strip_graph.specs.Strips.{arcs, rows, cols}
use Rattle.row_paths.specs.Searches.{bound_at}
use Rattle.row_paths.specs.Turns.{start_of, end_of}
use Rattle.row_paths.proofs.TurnLaws.{strip_region, strip_stays, rows_take, wall_read}
use Rattle.row_paths.proofs.turns.find_first.Given as given
use Rattle.row_paths.proofs.turns.find_first.Goals as goal
use Rattle.row_paths.proofs.turns.find_first.Goals.{After-deref-2}

-- the first column and the last one bound each row
left : (g : given.Over) (c : After-deref-2 g) → (x : ℕ) → bound_at c.deref.result.now x ≡ 0
left g c = wall_read c.in_ok-lo.lo.items c.deref.result.now 0 0 c.deref.ensures.value c.in_ok-lo.ensures.all refl

right : (g : given.Over) (c : After-deref-2 g) → (x : ℕ) → bound_at c.deref-2.result.now x ≡ cols c.args.strip.now
right g c = wall_read c.in_ok-hi.hi.items c.deref-2.result.now _ (cols c.args.strip.now) c.deref-2.ensures.value
    c.in_ok-hi.ensures.all c.cols.ensures.value

pub find_turn-requires-clause-region : goal.find_turn-requires-clause-region
find_turn-requires-clause-region g c =
    let at = (goal.at.find_turn-requires-clause-region g c).After-deref-2 in
    strip_region (cols c.args.strip.now) (end_of (rows c.args.strip.now) 0) c.deref.result.now c.deref-2.result.now
    (left g at) (right g at)

pub find_turn-requires-clause-within : goal.find_turn-requires-clause-within
find_turn-requires-clause-within g c =
    let at = (goal.at.find_turn-requires-clause-within g c).After-deref-2 in
    strip_stays (arcs c.args.strip.now) (cols c.args.strip.now) (start_of 0) (end_of (rows c.args.strip.now) 0)
    c.deref.result.now c.deref-2.result.now (left g at) (right g at)

pub returns-clause-count : goal.returns-clause-count
returns-clause-count g c =
    let m = rows c.args.strip.now in
    let wall = right g (goal.at.returns-clause-count g c).After-deref-2 in
    omega (
      arith,
      c.find_turn.ensures.count,
      rows_take m (cols c.args.strip.now) (start_of 0) (end_of m 0) c.deref.result.now c.deref-2.result.now
          (λ x. omega (arith, wall x)) (omega arith),
    )
