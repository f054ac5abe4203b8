use Rattle.std.proofs.Common.{map}
use Rattle.fku_types.proofs.ListLaws.{all_pushed}
use Rattle.section_core.specs.Flat.{IsAtHeight}
use Rattle.section_core.specs.Views.{contour_parts}
use Rattle.section_edits.specs.Changes.{reshaped}
use Rattle.section_core.specs.Views.{spot_at}
use Rattle.section_edits.proofs.Pushes.{changed_more}
use Rattle.section_edits.proofs.changes.reshaped_in.Goals as goal

pub loop-contour-preserved : goal.loop-contour-preserved
loop-contour-preserved c =
    let old = c.loop-contour.contours.items in
    let new = c.push.new.self.items in
    let y = c.in_ok-reshaped.field-0 in
    record {
      parts = changed_more contour_parts contour_parts (reshaped c.args.name.now (map spot_at c.args.spots.now)) old new
          y c.deref-contour-items.result.now c.loop-contour.contour-index c.contour-item.result c.loop-contour-test.true
          c.contour-item.is c.in_ok-push.ensures.items c.loop-contour.invariant.parts c.in_ok-reshaped.ensures.parts;
      level = all_pushed (IsAtHeight c.args.section.now.z) old new y c.in_ok-push.ensures.items
          c.loop-contour.invariant.level c.in_ok-reshaped.ensures.level;
    }
