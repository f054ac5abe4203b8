use Rattle.std.proofs.Common.{map, take}
use Rattle.std.specs.Prelude.{All}
use Rattle.section_core.specs.Flat.{contour_data}
use Rattle.section_pairs.specs.SectionFaults.{IsSimpleContour}
use Rattle.section_pairs.proofs.faults.test_contours.Given as goal

abbrev pub invariant-loop-contour : goal.invariant-loop-contour
invariant-loop-contour l = All IsSimpleContour (map contour_data (take l.contour-index l.contours))
