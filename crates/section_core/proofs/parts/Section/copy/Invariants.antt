use Rattle.std.proofs.Common.{◌≡◌, map, take}
use Rattle.section_core.specs.Flat.{contour_data}
use Rattle.section_core.proofs.parts.Section.copy.Given as goal

abbrev pub invariant-loop-contour : goal.invariant-loop-contour
invariant-loop-contour l = map contour_data l.contours.items ≡ map contour_data (take l.contour-index l.contour-items)
