use Rattle.std.proofs.Common.{arith, length, subst, ap, ◌∙◌, ◌≡◌, ◌+◌, ◌*◌, ◌<◌, ◌≤ℤ◌, ℕ, ℤ, ◌+ℤ◌, pos, to_z, of_z, to_z-of_z, SFits}
use mir.Syntax.{w128}
use Rattle.std.proofs.lemmas.Int.{ints}
use Rattle.fku_types.specs.declared.limits.TheConstants.{MAX_PAIRS}
use Rattle.row_paths.specs.Solutions.{Solves}
use Rattle.section_pairs.specs.declared.gap_pairs.GapPair.{GapPair}
use Rattle.surface_core.specs.Objects.{pair_cost_limit}
use Rattle.surface_core.proofs.StripSteps.{solves_at, same_count, cost_step}
use Rattle.surface_core.proofs.assembly.total_cost.Goals as goal

pub cost_of-cost-requires : goal.cost_of-cost-requires
cost_of-cost-requires c =
    subst (λ (q : GapPair). Solves q.pair c.index-solved-place.result) c.index-pairs-place.is
    (solves_at c.args.pairs.now c.args.solved.now c.requires.solved c.loop-place.place c.index-pairs-place.result
    c.index-solved-place.result c.loop-place-test.true c.index-pairs-place.is c.index-solved-place.is)

-- the sum with one more cost
fit : (s t : ℤ) (i : ℕ) → i < MAX_PAIRS → pos 0 ≤ℤ s → s ≤ℤ pos (i * pair_cost_limit) → pos 0 ≤ℤ t
    → t ≤ℤ pos pair_cost_limit → to_z w128 (of_z w128 (s +ℤ to_z w128 (of_z w128 t))) ≡ s +ℤ t
fit s t i l a b d e =
    let k : SFits w128 t = omega (arith, ints) in
    let f : SFits w128 (s +ℤ t) = omega (arith, ints) in
    ap (λ (z : ℤ). to_z w128 (of_z w128 (s +ℤ z))) (to_z-of_z k) ∙ to_z-of_z f

some : (s t u : ℤ) → u ≡ s +ℤ t → pos 0 ≤ℤ s → pos 0 ≤ℤ t → pos 0 ≤ℤ u
some s t u e a b = omega (arith, ints)

few : (s t u : ℤ) (i : ℕ) → u ≡ s +ℤ t → s ≤ℤ pos (i * pair_cost_limit) → t ≤ℤ pos pair_cost_limit
    → u ≤ℤ pos ((i + 1) * pair_cost_limit)
few s t u i e a b = omega (arith, ints)

pub loop-place-preserved : goal.loop-place-preserved
loop-place-preserved c =
    let xs = c.args.solved.now in
    let i = c.loop-place.place in
    let x = c.index-solved-place.result in
    let s = to_z w128 c.loop-place.cost-bits in
    let t = c.cost_of-cost.result in
    let inv = c.loop-place.invariant in
    let cost = c.cost_of-cost.ensures in
    let f = fit s t i (omega (arith, c.requires.few, c.loop-place-test.true)) inv.some inv.few cost.some cost.few in
    let l : i < length xs = omega (arith, same_count c.args.pairs.now xs c.requires.solved, c.loop-place-test.true) in
    record {
      value = cost_step xs i x s (to_z w128 (of_z w128 (s +ℤ to_z w128 (of_z w128 t)))) l c.index-solved-place.is
          inv.value (f ∙ ap (λ (z : ℤ). s +ℤ z) cost.value);
      some = some s t (to_z w128 (of_z w128 (s +ℤ to_z w128 (of_z w128 t)))) f inv.some cost.some;
      few = few s t (to_z w128 (of_z w128 (s +ℤ to_z w128 (of_z w128 t)))) i f inv.few cost.few;
    }
