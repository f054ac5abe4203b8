use Rattle.section_core.specs.Canonical.{contour_text}
use Rattle.fku_types.proofs.LoopSteps.{put_next, put_all}
use Rattle.section_core.proofs.printing.put_contours.Goals as goal

pub loop-contour-preserved : goal.loop-contour-preserved
loop-contour-preserved c = put_next contour_text c.args.contours.now c.loop-contour.contour-index c.contour-item.result
    _ _ _ c.loop-contour-test.true c.contour-item.is c.loop-contour.invariant c.in_ok-put_contour.ensures

pub returns : goal.returns
returns c = put_all contour_text c.args.contours.now c.loop-contour.contour-index _ _ c.loop-contour-test.false
    c.loop-contour.invariant
