use Rattle.std.proofs.Common.{◌≡◌, ℕ, ◌-◌, ◌<◌, ◌≤◌, length, map, slice_index_or}
use Rattle.correspondence.specs.declared.bounds.Bounds.{Bounds}
use Rattle.correspondence.specs.declared.groups.TheConstants.{GROUP}
use Rattle.correspondence.specs.Bounding.{Encloses}
use Rattle.correspondence.specs.Contours.{points_of, contour_at}
use Rattle.correspondence.proofs.groups.Group.at.Given as goal

abbrev pub invariant-loop-place : goal.invariant-loop-place
invariant-loop-place l = record {
  size : length l.each ≡ GROUP;
  enclosed : (k : ℕ) → l.begin ≤ k → k < l.place → Encloses l.bounds (contour_at (map points_of l.contours) k);
  each : (k : ℕ) (d : Bounds) → l.begin ≤ k → k < l.place
      → Encloses (slice_index_or l.each (k - l.begin) d) (contour_at (map points_of l.contours) k);
}
