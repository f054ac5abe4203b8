use Rattle.std.proofs.Common.{map, take, subst, sym, bytes_eq}
use Rattle.indexmap.specs.IndexMap.{get}
use Rattle.section_core.specs.Views.{link_parts}
use Rattle.correspondence.specs.Named.{names_above, AreNamedAbove}
use Rattle.correspondence.proofs.LinkedNameSteps.{links_take}
use Rattle.correspondence.proofs.link_table.all_above.Goals as goal

pub loop-link-preserved : goal.loop-link-preserved
loop-link-preserved c =
    subst (AreNamedAbove (λ q. names_above (get bytes_eq c.add_link.new.above q)))
    (sym (links_take c.args.links.now c.loop-link.link-index c.link-item.result c.loop-link-test.true
    c.link-item.is))
    (c.in_ok-add_link.ensures (map link_parts (take c.loop-link.link-index c.args.links.now)) c.loop-link.invariant)
