use Rattle.std.proofs.Common.{◌≡◌, map, take, All}
use Rattle.section_core.specs.Flat.{IsLevelSection}
use Rattle.section_core.specs.Views.{section_parts}
use Rattle.section_edits.specs.Changes.{added_in, contour_with}
use Rattle.section_core.specs.Views.{spot_at}
use Rattle.section_edits.proofs.changes.with_contour.Given as goal

abbrev pub invariant-loop-section : goal.invariant-loop-section
invariant-loop-section l = record {
  parts : map section_parts l.changed.items
      ≡ map (added_in l.z (contour_with l.name (map spot_at l.spots)))
      (map section_parts (take l.section-index l.sections));
  level : All IsLevelSection l.changed.items;
}
