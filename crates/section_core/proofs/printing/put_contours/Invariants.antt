use Rattle.std.proofs.Common.{◌≡◌, ◌++◌, take}
use Rattle.std.specs.List.{flat_map}
use Rattle.section_core.specs.Canonical.{contour_text}
use Rattle.section_core.proofs.printing.put_contours.Given as goal

abbrev pub invariant-loop-contour : goal.invariant-loop-contour
invariant-loop-contour l = l.out.items ≡ l.fn.out.items ++ flat_map contour_text (take l.contour-index l.contours)
