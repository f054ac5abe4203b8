use Rattle.std.proofs.Common.{◌≡◌, ◌≤◌, ◌*◌, ◌^◌, take, unsigned_abs}
use Rattle.triangle_meshes.specs.Volumes.{part_volume}
use Rattle.triangle_meshes.proofs.volume.part_volume.Given as goal

abbrev pub invariant-loop-triangle : goal.invariant-loop-triangle
invariant-loop-triangle l = record {
  sum : l.sum ≡ part_volume l.vertices l.about (take l.triangle-index l.triangles);
  bound : unsigned_abs l.sum ≤ l.triangle-index * (48 * 10 ^ 18);
}
