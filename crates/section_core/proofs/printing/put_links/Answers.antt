use Rattle.section_core.specs.Canonical.{link_text}
use Rattle.fku_types.proofs.LoopSteps.{put_next, put_all}
use Rattle.section_core.proofs.printing.put_links.Goals as goal

pub loop-link-preserved : goal.loop-link-preserved
loop-link-preserved c = put_next link_text c.args.links.now c.loop-link.link-index c.link-item.result _ _ _
    c.loop-link-test.true c.link-item.is c.loop-link.invariant c.in_ok-put_link.ensures

pub returns : goal.returns
returns c = put_all link_text c.args.links.now c.loop-link.link-index _ _ c.loop-link-test.false c.loop-link.invariant
