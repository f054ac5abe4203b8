use Rattle.std.proofs.Common.{◌≡◌, ◌≤◌, ◌*◌, take}
use Rattle.plane_geom.specs.Rings.{edge_count}
use Rattle.triangle_meshes.proofs.meshes.count_all.Given as goal

abbrev pub invariant-loop-triangle : goal.invariant-loop-triangle
invariant-loop-triangle l = record {
  count : l.count ≡ edge_count (take l.triangle-index l.triangles) l.u l.v;
  bound : l.count ≤ 3 * l.triangle-index;
}
