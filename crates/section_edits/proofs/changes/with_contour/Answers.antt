use Rattle.std.proofs.Common.{w32, map}
use Rattle.std.proofs.lemmas.Int.{to_z-of_z}
use Rattle.fku_types.proofs.ListLaws.{all_pushed}
use Rattle.section_core.specs.Flat.{IsLevelSection}
use Rattle.section_core.specs.Views.{section_parts}
use Rattle.section_edits.specs.Changes.{added_in, contour_with}
use Rattle.section_core.specs.Views.{spot_at}
use Rattle.section_edits.proofs.Pushes.{changed_more}
use Rattle.section_edits.proofs.changes.with_contour.Goals as goal

pub loop-section-preserved : goal.loop-section-preserved
loop-section-preserved c =
    let old = c.loop-section.changed.items in
    let new = c.push.new.self.items in
    let y = c.in_ok-added_in.field-0 in
    let contour = contour_with c.args.name.now (map spot_at c.args.spots.now) in
    record {
      parts = rw (to_z-of_z w32 c.args.z c.ranges.z)
          (changed_more section_parts section_parts (added_in c.args.z contour) old new y c.args.sections.now
          c.loop-section.section-index c.section-item.result c.loop-section-test.true c.section-item.is
          c.in_ok-push.ensures.items (rw (to_z-of_z w32 c.args.z c.ranges.z) at c.loop-section.invariant.parts)
          (rw (to_z-of_z w32 c.args.z c.ranges.z) at c.in_ok-added_in.ensures.parts));
      level = all_pushed IsLevelSection old new y c.in_ok-push.ensures.items c.loop-section.invariant.level
          c.in_ok-added_in.ensures.level;
    }
