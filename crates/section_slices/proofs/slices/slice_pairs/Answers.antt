use Rattle.std.proofs.Common.{◌≡◌, ℕ, length, ◌∙◌, inr, map, ℤ, ap, sym, subst, arith, to_z-of_z}
use Rattle.fku_types.specs.declared.fault.Fault.{Fault}
use Rattle.fku_types.specs.declared.fault.Fault.TheVariants.{NoMemory}
use Rattle.fku_types.proofs.AnswerLaws.{err_is}
use Rattle.section_pairs.specs.Pairs.{pair_parts}
use Rattle.pair_pool.specs.Solvers.{referents}
use Rattle.section_pairs.specs.SectionFaults.{OrNoMemory}
use Rattle.section_slices.specs.Slices.{IsGapAt, pairs_in_gap, IsHeightFault}
use Rattle.section_slices.proofs.SliceCounts.{handed_over}
use Rattle.section_slices.proofs.SliceFaults.{memory, not_memory, late}
use Rattle.section_slices.proofs.slices.slice_pairs.Given as given
use Rattle.section_slices.proofs.slices.slice_pairs.Goals as goal
use Rattle.section_slices.proofs.slices.slice_pairs.Goals.{In_ok-gap, After-solve_each}

-- there is a gap, so the height has no fault
clear : (g : given.Over) (c : In_ok-gap g) (f : Fault) → IsHeightFault c.args.sections.now c.args.z f → ⊥
clear g c = subst (λ (z : ℤ). (f : Fault) → IsHeightFault c.args.sections.now z f → ⊥) (to_z-of_z c.ranges.z)
    c.in_ok-gap.ensures.only

-- the strips that were solved are as many as the gap's pairs
count : (g : given.Over) (c : After-solve_each g) (k : ℕ) → IsGapAt c.args.sections.now c.args.z k
    → length (pairs_in_gap k (map pair_parts c.args.pairs.now)) ≡ length c.deref.result.now
count g c k at =
    handed_over k c.in_ok-gap.gap.index (map pair_parts c.args.pairs.now) c.deref.result.now
    (c.in_ok-gap.ensures.one k (subst (λ (z : ℤ). IsGapAt c.args.sections.now z k) (sym (to_z-of_z c.ranges.z)) at))
    (ap referents c.deref.ensures.value ∙ c.in_ok-strips.ensures)

pub returns-in_err-gap-clause-fault : goal.returns-in_err-gap-clause-fault
returns-in_err-gap-clause-fault g c =
    let S = c.args.sections.now in
    let fault = c.in_err-gap.field-0.0 in
    err_is (OrNoMemory (IsHeightFault S c.args.z)) c.from_residual.result fault c.from_residual.ensures.1
    (inr (subst (λ (z : ℤ). IsHeightFault S z fault) (to_z-of_z c.ranges.z) c.in_err-gap.ensures.fault))

pub returns-in_err-gap-clause-memory : goal.returns-in_err-gap-clause-memory
returns-in_err-gap-clause-memory g c =
    let S = c.args.sections.now in
    let fault = c.in_err-gap.field-0.0 in
    err_is (λ (e : Fault). e ≡ NoMemory → (f : Fault) → IsHeightFault S c.args.z f → ⊥) c.from_residual.result fault
    c.from_residual.ensures.1 (λ e f h. not_memory S _ fault c.in_err-gap.ensures.fault e)

pub returns-in_err-strips-clause-fault : goal.returns-in_err-strips-clause-fault
returns-in_err-strips-clause-fault g c =
    memory (IsHeightFault c.args.sections.now c.args.z) c.from_residual-in_err-strips.result
    c.from_residual-in_err-strips.ensures.1

pub returns-in_err-solved-clause-fault : goal.returns-in_err-solved-clause-fault
returns-in_err-solved-clause-fault g c =
    memory (IsHeightFault c.args.sections.now c.args.z) c.from_residual-in_err-solved.result
    c.from_residual-in_err-solved.ensures.1

pub returns-in_err-loops-clause-fault : goal.returns-in_err-loops-clause-fault
returns-in_err-loops-clause-fault g c =
    memory (IsHeightFault c.args.sections.now c.args.z) c.from_residual-in_err-loops.result
    c.from_residual-in_err-loops.ensures.1

pub returns-in_err-strips-clause-memory : goal.returns-in_err-strips-clause-memory
returns-in_err-strips-clause-memory g c =
    late _ c.from_residual-in_err-strips.result (clear g (goal.at.returns-in_err-strips-clause-memory g c).In_ok-gap)

pub returns-in_err-solved-clause-memory : goal.returns-in_err-solved-clause-memory
returns-in_err-solved-clause-memory g c =
    late _ c.from_residual-in_err-solved.result (clear g (goal.at.returns-in_err-solved-clause-memory g c).In_ok-gap)

pub returns-in_err-loops-clause-memory : goal.returns-in_err-loops-clause-memory
returns-in_err-loops-clause-memory g c =
    late _ c.from_residual-in_err-loops.result (clear g (goal.at.returns-in_err-loops-clause-memory g c).In_ok-gap)

pub returns-in_err-solved-clause-not_more : goal.returns-in_err-solved-clause-not_more
returns-in_err-solved-clause-not_more g c k at =
    let strips = count g (goal.at.returns-in_err-solved-clause-not_more g c).After-solve_each k at in
    omega (arith, strips, c.solve_each.ensures.not_more)

pub returns-in_err-loops-clause-not_more : goal.returns-in_err-loops-clause-not_more
returns-in_err-loops-clause-not_more g c k at =
    let strips = count g (goal.at.returns-in_err-loops-clause-not_more g c).After-solve_each k at in
    omega (arith, strips, c.solve_each.ensures.not_more)

pub returns-clause-not_more : goal.returns-clause-not_more
returns-clause-not_more g c k at =
    omega (arith, count g (goal.at.returns-clause-not_more g c).After-solve_each k at, c.solve_each.ensures.not_more)
