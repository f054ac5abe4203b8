use Rattle.std.proofs.Common.{◌≡◌, take, All}
use Rattle.plane_geom.specs.RingViews.{ring_views, IsContour}
use Rattle.section_pairs.specs.Rings.{pick}
use Rattle.section_pairs.proofs.rings.picked.Given as goal

abbrev pub invariant-loop-place : goal.invariant-loop-place
invariant-loop-place l = record {
  views : ring_views l.picked.items ≡ pick (ring_views l.rings) (take l.place-index l.places);
  contours : All IsContour l.picked.items;
}
