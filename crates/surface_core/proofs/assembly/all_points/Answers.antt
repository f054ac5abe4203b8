use Rattle.std.proofs.Common.{[], flat_map}
use Rattle.correspondence.specs.Contours.{points_of}
use Rattle.section_core.specs.declared.parts.Section.{Section}
use Rattle.fku_types.proofs.LoopSteps.{put_next, put_all}
use Rattle.surface_core.proofs.assembly.all_points.Goals as goal

pub loop-section-preserved : goal.loop-section-preserved
loop-section-preserved c = put_next (λ (s : Section). flat_map points_of s.contours.items) c.args.sections.now
    c.loop-section.section-index c.section-item.result [] c.loop-section.points.items c.add_points.new.points.items
    c.loop-section-test.true c.section-item.is c.loop-section.invariant c.in_ok-add_points.ensures

pub returns : goal.returns
returns c = put_all (λ (s : Section). flat_map points_of s.contours.items) c.args.sections.now
    c.loop-section.section-index [] c.loop-section.points.items c.loop-section-test.false c.loop-section.invariant
