use Rattle.std.proofs.Common.{ℕ, ◌<◌, slice_index_or}
use Rattle.fku_types.specs.declared.points.Point.{Point}
use Rattle.ring_polygons.specs.Extents.{IsEnclosed, IsExtent}
use Rattle.ring_polygons.proofs.extents.Extent.of.Given as goal

abbrev pub invariant-loop-p : goal.invariant-loop-p
invariant-loop-p l = record {
  extent : IsExtent l.extent;
  enclosed : (k : ℕ) (d : Point) → k < l.p-index → IsEnclosed l.extent (slice_index_or l.points k d);
}
