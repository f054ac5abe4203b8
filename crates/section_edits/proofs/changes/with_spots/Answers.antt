use Rattle.std.proofs.Common.{map}
use Rattle.fku_types.proofs.ListLaws.{all_pushed}
use Rattle.fku_types.proofs.LoopSteps.{image_next, image_all}
use Rattle.section_core.specs.Flat.{IsLevelSection}
use Rattle.section_core.specs.Views.{section_parts}
use Rattle.section_edits.specs.Changes.{reshaped_in}
use Rattle.section_core.specs.Views.{spot_at}
use Rattle.section_edits.proofs.changes.with_spots.Goals as goal

pub loop-section-preserved : goal.loop-section-preserved
loop-section-preserved c =
    let changed = reshaped_in c.args.name.now (map spot_at c.args.spots.now) in
    let made = c.in_ok-reshaped_in in
    record {
      parts = image_next section_parts section_parts changed c.args.sections.now c.loop-section.section-index
          c.section-item.result made.field-0 c.loop-section.changed.items _ c.loop-section-test.true c.section-item.is
          c.loop-section.invariant.parts made.ensures.parts c.in_ok-push.ensures.items;
      level = all_pushed IsLevelSection c.loop-section.changed.items _ made.field-0 c.in_ok-push.ensures.items
          c.loop-section.invariant.level made.ensures.level;
    }

pub returns : goal.returns
returns c = record {
  parts = image_all section_parts section_parts (reshaped_in c.args.name.now (map spot_at c.args.spots.now))
      c.args.sections.now c.loop-section.section-index c.loop-section.changed.items c.loop-section-test.false
      c.loop-section.invariant.parts;
  level = c.loop-section.invariant.level;
}
