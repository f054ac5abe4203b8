use Rattle.std.proofs.Common.{◌≡◌, length, take, All}
use Rattle.triangle_meshes.specs.Meshes.{triangle_lists}
use Rattle.byu_text.proofs.reading_laws.are_triangles.Given as goal

abbrev pub invariant-loop-part : goal.invariant-loop-part
invariant-loop-part l = All (All (λ ids. length ids ≡ 3)) (take l.part-index (triangle_lists l.mesh.parts.items))
