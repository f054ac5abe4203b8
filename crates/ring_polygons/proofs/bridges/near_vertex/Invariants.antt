use Rattle.std.proofs.Common.{◌≡◌, ◌<◌, length, slice_index_or}
use Rattle.plane_geom.specs.Rings.{origin}
use Rattle.plane_geom.specs.Lengths.{distance_square}
use Rattle.ring_polygons.specs.Composites.{first_least}
use Rattle.ring_polygons.proofs.bridges.near_vertex.Given as goal

abbrev pub invariant-loop-v : goal.invariant-loop-v
invariant-loop-v l = record {
  vertex : l.vertex ≡ first_least (λ v. distance_square l.point (slice_index_or l.points v origin)) l.v;
  square : l.square ≡ distance_square l.point (slice_index_or l.points l.vertex origin);
  there : l.vertex < length l.points;
}
