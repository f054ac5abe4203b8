use Rattle.std.proofs.Common.{◌≡◌, ◌∙◌, ◌+◌, ◌≤◌, List, IfErr, length, map, ℤ, ap, sym, subst, to_z-of_z}
use Rattle.fku_types.proofs.AnswerLaws.{err_is}
use Rattle.section_pairs.specs.Pairs.{PairParts, pair_parts}
use Rattle.section_pairs.specs.SectionFaults.{OrNoMemory}
use Rattle.section_pairs.proofs.PairLaws.{one_pairs}
use Rattle.section_slices.specs.Slices.{IsGapAt, pairs_in_gap, IsHeightFault, IsSliceFault}
use Rattle.section_slices.proofs.SliceFaults.{of_pairs, of_height, unsolved}
use Rattle.section_slices.proofs.slices.slice.Goals as goal

pub returns-in_err-found-clause-fault : goal.returns-in_err-found-clause-fault
returns-in_err-found-clause-fault g c =
    err_is (OrNoMemory (IsSliceFault c.args.sections.now c.args.z)) c.from_residual.result c.in_err-found.field-0.0
    c.from_residual.ensures.1 (of_pairs c.args.sections.now c.args.z c.in_err-found.field-0.0
    c.in_err-found.ensures.fault)

pub returns-clause-fault : goal.returns-clause-fault
returns-clause-fault g c =
    let S = c.args.sections.now in
    of_height S c.args.z (map pair_parts c.in_ok-found.found.items) c.in_ok-found.ensures.pairs c.slice_pairs.result
    (subst (λ (z : ℤ). IfErr c.slice_pairs.result (OrNoMemory (IsHeightFault S z))) (to_z-of_z c.ranges.z)
    c.slice_pairs.ensures.fault)

pub returns-clause-not_more : goal.returns-clause-not_more
returns-clause-not_more g c k ps at are =
    let S = c.args.sections.now in
    let same : map pair_parts c.deref.result.now ≡ ps = ap (map pair_parts) c.deref.ensures.value
    ∙ one_pairs S (map pair_parts c.in_ok-found.found.items) ps c.in_ok-found.ensures.pairs are in
    subst (λ (qs : List PairParts). g.P.PairSolver.solved_pairs c.slice_pairs.new.solver ≤ g.P.PairSolver.solved_pairs
    c.args.solver.now + length (pairs_in_gap k qs)) same
    (c.slice_pairs.ensures.not_more k (subst (λ (z : ℤ). IsGapAt S z k) (sym (to_z-of_z c.ranges.z)) at))

pub returns-clause-unsolved : goal.returns-clause-unsolved
returns-clause-unsolved g c fault h =
    let S = c.args.sections.now in
    unsolved S c.args.z (map pair_parts c.in_ok-found.found.items) fault
    (g.P.PairSolver.solved_pairs c.slice_pairs.new.solver ≡ g.P.PairSolver.solved_pairs c.args.solver.now)
    c.in_ok-found.ensures.pairs
    (λ f k. c.slice_pairs.ensures.unsolved f (subst (λ (z : ℤ). IsHeightFault S z f) (sym (to_z-of_z c.ranges.z)) k)) h
