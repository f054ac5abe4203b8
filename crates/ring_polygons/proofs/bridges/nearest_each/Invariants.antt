use Rattle.std.proofs.Common.{◌≡◌, ◌<◌, ℕ, length}
use Rattle.plane_geom.specs.RingViews.{ring_views}
use Rattle.ring_polygons.specs.Composites.{view_at}
use Rattle.ring_polygons.specs.Nearest.{IsNearest, near_at}
use Rattle.ring_polygons.proofs.bridges.nearest_each.Given as goal

abbrev pub invariant-loop-other : goal.invariant-loop-other
invariant-loop-other l = record {
  same : length l.nears.items ≡ l.other-index;
  each : (c : ℕ) → c < l.other-index
      → IsNearest l.ring (view_at (ring_views l.others) c).points (near_at l.nears.items c);
}
