use Rattle.std.proofs.Common.{◌≡◌, map, take, None}
use Rattle.std.specs.List.{find, flat_map}
use Rattle.section_core.specs.declared.parts.Section.{Section}
use Rattle.section_core.specs.Views.{contour_parts}
use Rattle.section_edits.specs.Contours.{has_name}
use Rattle.section_edits.proofs.contours.contour_of.Given as goal

abbrev pub invariant-loop-section : goal.invariant-loop-section
invariant-loop-section l = find (has_name l.name)
    (flat_map (λ (s : Section). map contour_parts s.contours.items) (take l.section-index l.sections)) ≡ None
