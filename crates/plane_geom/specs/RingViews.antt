-- Rings of the code as contracts see them.
use Rattle.std.specs.Prelude.{◌≤◌, List, map, length, All}
use Rattle.fku_types.specs.declared.limits.TheConstants.{MAX_CONTOUR_VERTICES}
use Rattle.fku_types.specs.Points.{IsInRange}
use Rattle.plane_geom.specs.Rings.{RingView}
use Rattle.plane_geom.specs.declared.ring.Ring.{Ring}

-- the points and ids of a ring
abbrev pub ring_view : Ring → RingView
ring_view r = record { points = r.points.items; ids = r.ids.items }

abbrev pub ring_views : List Ring → List RingView
ring_views rings = map ring_view rings

-- the ring of a contour: 3 to MAX_CONTOUR_VERTICES points in range
pub record IsContour (r : Ring) : Type 0 where
  pub enough : 3 ≤ length r.points.items
  pub few : length r.points.items ≤ MAX_CONTOUR_VERTICES
  pub in_range : All IsInRange r.points.items
