use Rattle.std.proofs.Common.{◌≡◌, ◌≤◌, ◌*◌, ◌^◌, All, length, take, unsigned_abs}
use Rattle.std.specs.Prelude.{sum_by}
use Rattle.fku_types.specs.declared.points.Point.{Point}
use Rattle.plane_geom.specs.Rings.{IsClosed}
use Rattle.plane_geom.specs.Planes.{signed_sum}
use Rattle.triangle_meshes.specs.Meshes.{triangle_lists}
use Rattle.triangle_meshes.specs.Volumes.{part_volume}
use Rattle.triangle_meshes.proofs.volume.mesh_volume.Given as goal

abbrev pub invariant-loop-part : goal.invariant-loop-part
invariant-loop-part l = record {
  sum : l.sum ≡ signed_sum (part_volume l.vertices l.about) (take l.part-index (triangle_lists l.parts));
  bound : unsigned_abs l.sum ≤ sum_by length (take l.part-index (triangle_lists l.parts)) * (48 * 10 ^ 18);
  anywhere : All IsClosed (triangle_lists l.parts) → (o : Point)
      → signed_sum (part_volume l.vertices o) (take l.part-index (triangle_lists l.parts)) ≡ l.sum;
}
