use Rattle.std.proofs.Common.{map, take}
use Rattle.std.specs.Prelude.{All}
use Rattle.section_core.specs.Flat.{section_data}
use Rattle.section_pairs.specs.SectionFaults.{IsSimpleContour, data_contours}
use Rattle.section_pairs.proofs.faults.test_all_simple.Given as goal

abbrev pub invariant-loop-place : goal.invariant-loop-place
invariant-loop-place l = All IsSimpleContour (data_contours (map section_data (take l.place l.sections)))
