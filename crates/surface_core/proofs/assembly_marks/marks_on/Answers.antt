use Rattle.std.proofs.Common.{arith, ◌<◌, length, ap}
use Rattle.section_pairs.specs.Pairs.{pair_parts}
use Rattle.surface_core.specs.Surfaces.{joins}
use Rattle.surface_core.proofs.MarkSteps.{all_mapped}
use Rattle.surface_core.proofs.assembly_marks.marks_on.Goals as goal

pub mark_joined-requires : goal.mark_joined-requires
mark_joined-requires c k d l =
    let all = all_mapped (λ i. i < c.args.count) (joins c.args.face c.args.section) pair_parts c.args.pairs.now
    c.loop-pair.pair-index c.pair-item.result c.loop-pair-test.true c.pair-item.is c.requires in
    omega (arith, all k d l, c.loop-pair.invariant.count, ap length c.deref_mut.ensures.value)
