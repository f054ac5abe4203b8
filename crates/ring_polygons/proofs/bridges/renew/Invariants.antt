use Rattle.std.proofs.Common.{◌≡◌, ◌<◌, ◌≤◌, ℕ, List, length}
use Rattle.fku_types.specs.declared.points.Point.{Point}
use Rattle.plane_geom.specs.RingViews.{ring_views}
use Rattle.ring_polygons.specs.Composites.{view_at}
use Rattle.ring_polygons.specs.Nearest.{IsNearest, IsExtended, near_at}
use Rattle.ring_polygons.proofs.bridges.renew.Given as goal

abbrev pub invariant-loop-c : goal.invariant-loop-c
invariant-loop-c l = record {
  same : length l.nears ≡ length l.others;
  done : (k : ℕ) (before : List Point) → k < l.c
      → IsNearest before (view_at (ring_views l.others) k).points (near_at l.fn.nears k)
      → IsExtended before l.after l.place l.added
      → IsNearest l.after (view_at (ring_views l.others) k).points (near_at l.nears k);
  rest : (k : ℕ) → l.c ≤ k → near_at l.nears k ≡ near_at l.fn.nears k;
}
