use Rattle.std.proofs.Common.{◌≡◌, ◌≤◌, length, All, vec_len}
use Rattle.fku_types.specs.Points.{IsInRange}
use Rattle.plane_geom.specs.RingViews.{ring_view, ring_views, IsContour}
use Rattle.ring_polygons.specs.Composites.{join_others, composite}
use Rattle.ring_polygons.specs.Nearest.{AreNearest}
use Rattle.ring_polygons.proofs.composing.join_all.Given as goal

abbrev pub invariant-joining : goal.invariant-joining
invariant-joining l = record {
  value : join_others (length l.others.items) (ring_view l.ring) (ring_views l.others.items)
      ≡ composite (ring_views l.fn.rings.items);
  contours : All IsContour l.others.items;
  range : All IsInRange l.ring.points.items;
  enough : 3 ≤ length l.ring.points.items;
  nearest : AreNearest l.ring.points.items (ring_views l.others.items) l.nears.items;
}

abbrev pub decreases-joining : goal.decreases-joining
decreases-joining l = vec_len l.others
