use Rattle.section_core.specs.Views.{link_parts}
use Rattle.fku_types.proofs.LoopSteps.{copied_next, copied_all}
use Rattle.section_core.proofs.parts.Link.copy_all.Goals as goal

pub loop-link-preserved : goal.loop-link-preserved
loop-link-preserved c = copied_next link_parts c.args.links.now c.loop-link.link-index c.link-item.result c.copy.result
    _ _ c.loop-link-test.true c.link-item.is c.loop-link.invariant c.copy.ensures c.in_ok-push.ensures.items

pub returns : goal.returns
returns c = copied_all link_parts c.args.links.now c.loop-link.link-index _ c.loop-link-test.false c.loop-link.invariant
