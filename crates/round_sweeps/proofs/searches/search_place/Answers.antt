use Rattle.std.proofs.Common.{◌≡◌, ◌∙◌, ◌+◌, ◌%◌, length, ℤ, pos, ◌+ℤ◌, ◌≤ℤ◌, arith, to_z, of_z, w64, ap}
use Rattle.std.proofs.lemmas.Int.{ints, to_z-of_z}
use Rattle.strip_graph.specs.Feasible.{lifted_row}
use Rattle.round_sweeps.specs.Columns.{at_row, cost_limit}
use Rattle.round_sweeps.specs.Searches.{gone}
use Rattle.round_sweeps.proofs.BackLaws.{place_above, place_last}
use Rattle.round_sweeps.proofs.searches.search_place.Given as given
use Rattle.round_sweeps.proofs.searches.search_place.Goals as goal
use Rattle.round_sweeps.proofs.searches.search_place.Goals.{After-number_at-number, After-down, After-right}

-- no cast changes what a step costs on
cost_on : (sum cost : ℤ) → pos 0 ≤ℤ sum → sum ≤ℤ gone → pos 0 ≤ℤ cost → cost ≤ℤ cost_limit
    → to_z w64 (of_z w64 (to_z w64 (of_z w64 sum) +ℤ to_z w64 (of_z w64 cost))) ≡ cost +ℤ sum
cost_on sum cost a b d e = omega (arith, ints, a, b, d, e)

-- nor the number of the place
number : (g : given.Over) (c : After-number_at-number g)
    → to_z w64 (of_z w64 c.number_at-number.result)
    ≡ lifted_row (length c.args.known.now) c.args.round (at_row c.args.known.now) (c.args.start + c.args.row)
number g c =
    let n = c.number_at-number in
    let same : to_z w64 (of_z w64 n.result) ≡ n.result = omega (arith, ints, n.ensures.least, n.ensures.most) in
    same ∙ n.ensures.value
    ∙ ap (λ (s : ℤ). lifted_row (length c.args.known.now) s (at_row c.args.known.now) (c.args.start + c.args.row))
    (to_z-of_z w64 c.args.round c.ranges.round)

by_v : (g : given.Over) (c : After-down g)
    → to_z w64 (of_z w64 (to_z w64 (of_z w64 c.args.below) +ℤ to_z w64 (of_z w64 c.down.result)))
    ≡ g.C.ColumnCosts.downs c.args.here.now ((c.args.start + c.args.row + 1) % length c.args.known.now)
    +ℤ c.args.below
by_v g c =
    let d = c.down.ensures in
    cost_on c.args.below c.down.result c.requires.below_least c.requires.below_most
    (omega (arith, ints, d.value, d.least)) (omega (arith, ints, d.value, d.most))
    ∙ ap (λ (x : ℤ). x +ℤ c.args.below)
    (d.value ∙ ap (g.C.ColumnCosts.downs c.args.here.now) c.ring_row-then-row-height.ensures.value)

by_h : (g : given.Over) (c : After-right g)
    → to_z w64 (of_z w64 (to_z w64 (of_z w64 c.args.sum) +ℤ to_z w64 (of_z w64 c.right.result)))
    ≡ g.N.ColumnCosts.rights c.args.next.now ((c.args.start + c.args.row) % length c.args.known.now) +ℤ c.args.sum
by_h g c =
    let d = c.right.ensures in
    cost_on c.args.sum c.right.result c.requires.sum_least c.requires.sum_most
    (omega (arith, ints, d.value, d.least)) (omega (arith, ints, d.value, d.most))
    ∙ ap (λ (x : ℤ). x +ℤ c.args.sum) (d.value ∙ ap (g.N.ColumnCosts.rights c.args.next.now) c.ring_row.ensures.value)

pub choose-requires-clause-v_least : goal.choose-requires-clause-v_least
choose-requires-clause-v_least g c = omega (arith, ints, c.requires.below_least, c.requires.below_most, c.down.ensures)

pub choose-requires-clause-v_most : goal.choose-requires-clause-v_most
choose-requires-clause-v_most g c = omega (arith, ints, c.requires.below_least, c.requires.below_most, c.down.ensures)

pub choose-requires-clause-h_least : goal.choose-requires-clause-h_least
choose-requires-clause-h_least g c = omega (arith, ints, c.requires.sum_least, c.requires.sum_most, c.right.ensures)

pub choose-requires-clause-h_most : goal.choose-requires-clause-h_most
choose-requires-clause-h_most g c = omega (arith, ints, c.requires.sum_least, c.requires.sum_most, c.right.ensures)

pub returns-then-row-height : goal.returns-then-row-height
returns-then-row-height g c =
    let at = goal.at.returns-then-row-height g c in
    let s = c.choose.ensures in
    place_above _ _ _ _ _ _ _ _ c.if-row-height.true
    (rw (
      to_z-of_z w64 c.args.limit c.ranges.limit,
      number g at.After-number_at-number,
      by_v g at.After-down,
      by_h g at.After-right,
    ) at s.step) s.least s.most

pub returns-else-row-height : goal.returns-else-row-height
returns-else-row-height g c =
    let at = goal.at.returns-else-row-height g c in
    let s = c.choose-else-row-height.ensures in
    let n = number g at.After-number_at-number in
    place_last _ _ _ _ _ _ _ _ c.if-row-height.false
    (rw (to_z-of_z w64 c.args.limit c.ranges.limit, n, by_h g at.After-right) at s.step)
    (omega (arith, ints, n, c.number_at-number.ensures.least, c.number_at-number.ensures.most))
    c.requires.range.limit_most s.least s.most
