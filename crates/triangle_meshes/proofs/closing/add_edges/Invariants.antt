use Rattle.std.proofs.Common.{◌≡◌, ◌+◌, ℕ, take}
use Rattle.std.specs.Prelude.{count_by}
use Rattle.std.specs.List.{flat_map}
use Rattle.plane_geom.specs.Rings.{ring_edges}
use Rattle.triangle_meshes.specs.Keys.{times, is_forth, is_back}
use Rattle.triangle_meshes.proofs.closing.add_edges.Given as goal

abbrev pub invariant-loop-triangle : goal.invariant-loop-triangle
invariant-loop-triangle l = record {
  forth : (k : ℕ) → times k l.ways.forth.items
      ≡ times k l.initial.ways.forth.items
      + count_by (is_forth k) (flat_map ring_edges (take l.triangle-index l.triangles));
  back : (k : ℕ) → times k l.ways.back.items
      ≡ times k l.initial.ways.back.items
      + count_by (is_back k) (flat_map ring_edges (take l.triangle-index l.triangles));
}
