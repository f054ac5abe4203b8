use Rattle.std.proofs.Common.{◌≡◌, map, take, All}
use Rattle.std.specs.Prelude.{filter, not}
use Rattle.section_core.specs.Flat.{IsAtHeight}
use Rattle.section_core.specs.Parts.{ContourParts}
use Rattle.section_core.specs.Views.{contour_parts}
use Rattle.section_edits.specs.Contours.{has_name}
use Rattle.section_edits.proofs.changes.others.Given as goal

abbrev pub invariant-loop-contour : goal.invariant-loop-contour
invariant-loop-contour l = record {
  parts : map contour_parts l.contours.items
      ≡ filter (λ (c : ContourParts). not (has_name l.name c))
      (map contour_parts (take l.contour-index l.contour-items));
  level : All (IsAtHeight l.section.z) l.contours.items;
}
