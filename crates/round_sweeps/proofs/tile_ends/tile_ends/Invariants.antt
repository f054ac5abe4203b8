use Rattle.std.proofs.Common.{◌≡◌, ◌+◌, ◌-◌, length}
use Rattle.plane_geom.specs.Rings.{around}
use Rattle.round_sweeps.specs.Tiles.{AreTileEnds}
use Rattle.round_sweeps.proofs.tile_ends.tile_ends.Given as goal

abbrev pub invariant-loop-index : goal.invariant-loop-index
invariant-loop-index l = record {
  before : l.before ≡ around l.ring (l.index + (length l.ring - 1));
  ends : AreTileEnds l.turned l.height l.ring l.index l.ends.items;
}
