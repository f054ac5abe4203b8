use Rattle.std.proofs.Common.{◌≡◌, map, take}
use Rattle.section_core.specs.Flat.{contour_data}
use Rattle.section_pairs.proofs.unchanged.are_same_contours.Given as goal

abbrev pub invariant-loop-place : goal.invariant-loop-place
invariant-loop-place l = map contour_data (take l.place l.one) ≡ map contour_data (take l.place l.other)
