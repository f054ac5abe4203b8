use Rattle.std.proofs.Common.{◌≡◌, take}
use Rattle.std.specs.List.{flat_map}
use Rattle.triangle_meshes.specs.Meshes.{triangle_lists}
use Rattle.mesh_measures.proofs.mesh_counts.triangles_of.Given as goal

abbrev pub invariant-loop-part : goal.invariant-loop-part
invariant-loop-part l = l.triangles.items
    ≡ flat_map (λ part. part) (take l.part-index (triangle_lists l.parts))
