use Rattle.std.proofs.Common.{◌≡◌, ◌<◌, length}
use Rattle.ring_polygons.specs.Composites.{first_least}
use Rattle.ring_polygons.specs.Nearest.{place_of}
use Rattle.ring_polygons.proofs.Nearest.{nearest_to, square_from}
use Rattle.ring_polygons.proofs.bridges.nearest.Given as goal

abbrev pub invariant-loop-p : goal.invariant-loop-p
invariant-loop-p l = record {
  place : l.place ≡ first_least (square_from l.ring l.other) l.p;
  vertex : l.vertex ≡ nearest_to l.other (place_of l.ring l.place);
  square : l.square ≡ square_from l.ring l.other l.place;
  there : l.place < length l.ring;
}
