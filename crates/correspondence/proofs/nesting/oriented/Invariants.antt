use Rattle.std.proofs.Common.{◌≡◌, map, All}
use Rattle.std.specs.List.{range_with_len}
use Rattle.plane_geom.specs.RingViews.{ring_views, IsContour}
use Rattle.correspondence.specs.Contours.{points_of}
use Rattle.correspondence.specs.Nesting.{first_id, ring_at}
use Rattle.correspondence.proofs.nesting.oriented.Given as goal

abbrev pub invariant-loop-place : goal.invariant-loop-place
invariant-loop-place l = record {
  rings : ring_views l.rings.items ≡ map (ring_at l.first_id (map points_of l.contours)) (range_with_len 0 l.place);
  id : l.id ≡ first_id l.first_id (map points_of l.contours) l.place;
  contours : All IsContour l.rings.items;
}
