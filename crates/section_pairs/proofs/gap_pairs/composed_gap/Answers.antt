use Rattle.std.proofs.Common.{List, map, subst, sym}
use Rattle.correspondence.specs.declared.gaps.Component.{Component}
use Rattle.correspondence.specs.Gaps.{members_of, AreGapComponents}
use Rattle.section_pairs.proofs.RangeLaws.{one_result}
use Rattle.section_pairs.proofs.gap_pairs.composed_gap.Goals as goal

pub returns : goal.returns
returns c =
    let told = c.composed_between.ensures in
    let parts = c.deref.result.now in
    let are = subst (λ (cs : List Component). AreGapComponents c.args.sections.now c.args.gap cs)
    (sym c.deref.ensures.value) c.in_ok-components.ensures in
    one_result c.args.sections.now c.args.gap (map members_of parts) c.composed_between.result are told.pairs
    told.strips told.short told.fault
