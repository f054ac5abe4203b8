-- Successive contours of a section.
use Rattle.std.specs.Prelude.{◌≡◌, ℕ, ◌+◌, ◌-◌, ◌*◌, ◌<◌, ◌≤◌, min, List, length, slice_index_or}
use Rattle.fku_types.specs.declared.points.Point.{Point}
use Rattle.correspondence.specs.declared.bounds.Bounds.{Bounds}
use Rattle.correspondence.specs.declared.groups.Group.{Group}
use Rattle.correspondence.specs.declared.groups.TheConstants.{GROUP}
use Rattle.correspondence.specs.Bounding.{Encloses}
use Rattle.correspondence.specs.Contours.{contour_at}

-- some contours, as many as a group has or those that are left, bounds of them all, and bounds of each
pub record IsBoundedGroup (contours : List (List Point)) (g : Group) : Type 0 where
  pub some : g.begin < g.end
  pub whole : g.end ≡ min (length contours) (g.begin + GROUP)
  pub enclosed : (k : ℕ) → g.begin ≤ k → k < g.end → Encloses g.bounds (contour_at contours k)
  pub each : (k : ℕ) (d : Bounds) → g.begin ≤ k → k < g.end
      → Encloses (slice_index_or g.each (k - g.begin) d) (contour_at contours k)

-- groups, one after the other, of all contours
pub record AreGroups (contours : List (List Point)) (groups : List Group) : Type 0 where
  pub each : (k : ℕ) (d : Group) → k < length groups → IsBoundedGroup contours (slice_index_or groups k d)
  pub begin : (k : ℕ) (d : Group) → k < length groups → (slice_index_or groups k d).begin ≡ k * GROUP
  pub all : length contours ≤ length groups * GROUP
