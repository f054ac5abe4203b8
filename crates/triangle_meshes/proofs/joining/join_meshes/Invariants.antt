use Rattle.std.proofs.Common.{◌≡◌, ◌++◌, map, drop, length}
use Rattle.std.specs.List.{flat_map}
use Rattle.triangle_meshes.specs.Meshes.{Surface, surface_of, triangle_lists}
use Rattle.triangle_meshes.specs.Joined.{joined_parts}
use Rattle.triangle_meshes.proofs.joining.join_meshes.Given as goal

abbrev pub invariant-loop-mesh : goal.invariant-loop-mesh
invariant-loop-mesh l = record {
  vertices : l.vertices.items ++ flat_map (λ (s : Surface). s.vertices) (map surface_of (drop l.mesh-index l.meshes))
      ≡ flat_map (λ (s : Surface). s.vertices) (map surface_of l.meshes);
  parts : triangle_lists l.parts.items
      ++ joined_parts (length l.vertices.items) (map surface_of (drop l.mesh-index l.meshes))
      ≡ joined_parts 0 (map surface_of l.meshes);
}
