use Rattle.std.proofs.Common.{ℤ, map, ap, sym, subst, to_z-of_z}
use Rattle.section_pairs.specs.Pairs.{pair_parts}
use Rattle.pair_pool.specs.Solvers.{referents}
use Rattle.section_slices.specs.Slices.{IsGapAt, AreStripsAt, no_gap}
use Rattle.section_slices.proofs.ObjectSlices.{strips_found}
use Rattle.section_slices.proofs.objects.strips_at.Goals as goal

pub returns-in-Ok : goal.returns-in-Ok
returns-in-Ok c =
    let S = c.args.sections.now in
    let g = c.in-Ok.gap.index in
    strips_found c.args.z S g (map pair_parts c.args.pairs.now) c.gap_strips.result
    (subst (λ (z : ℤ). IsGapAt S z g) (to_z-of_z c.ranges.z) c.in-Ok.ensures.gap) c.requires c.gap_strips.ensures

pub returns-in-Err : goal.returns-in-Err
returns-in-Err c =
    let S = c.args.sections.now in
    subst (AreStripsAt c.args.z S) (sym (ap referents c.new.ensures.items))
    (no_gap (λ g at. c.in-Err.ensures.no_gap g (subst (λ (z : ℤ). IsGapAt S z g) (sym (to_z-of_z c.ranges.z)) at)))
