use Rattle.std.proofs.Common.{◌≡◌, ◌≤◌, ℕ, ◌<◌, slice_index_or, sum_by, take, length}
use Rattle.section_core.specs.declared.parts.Contour.{Contour}
use Rattle.correspondence.specs.Contours.{IsOutline, points_of}
use Rattle.section_call_tests.proofs.contour_tests.are_outlines.Given as goal

abbrev pub invariant-loop-contour : goal.invariant-loop-contour
invariant-loop-contour l = record {
  each : (k : ℕ) (d : Contour) → k < l.contour-index → IsOutline (points_of (slice_index_or l.contours k d));
  sum : l.vertices ≡ sum_by (λ c. length (points_of c)) (take l.contour-index l.contours);
  few : l.vertices ≤ 16384;
}
