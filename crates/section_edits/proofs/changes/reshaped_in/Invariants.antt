use Rattle.std.proofs.Common.{◌≡◌, map, take, All}
use Rattle.section_core.specs.Flat.{IsAtHeight}
use Rattle.section_core.specs.Views.{contour_parts}
use Rattle.section_edits.specs.Changes.{reshaped}
use Rattle.section_core.specs.Views.{spot_at}
use Rattle.section_edits.proofs.changes.reshaped_in.Given as goal

abbrev pub invariant-loop-contour : goal.invariant-loop-contour
invariant-loop-contour l = record {
  parts : map contour_parts l.contours.items
      ≡ map (reshaped l.name (map spot_at l.spots)) (map contour_parts (take l.contour-index l.contour-items));
  level : All (IsAtHeight l.section.z) l.contours.items;
}
