use Rattle.std.proofs.Common.{◌≡◌, ◌∷◌, [], take, None}
use Rattle.std.specs.List.{find, flat_map}
use Rattle.section_core.specs.Views.{contour_parts}
use Rattle.section_core.specs.declared.parts.Contour.{Contour}
use Rattle.section_edits.specs.Contours.{has_name}
use Rattle.section_edits.proofs.contours.contour_in.Given as goal

abbrev pub invariant-loop-contour : goal.invariant-loop-contour
invariant-loop-contour l = find (has_name l.name)
    (flat_map (λ (c : Contour). contour_parts c ∷ []) (take l.contour-index l.contours)) ≡ None
