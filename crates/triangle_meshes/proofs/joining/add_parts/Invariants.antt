use Rattle.std.proofs.Common.{◌≡◌, ◌++◌, take}
use Rattle.triangle_meshes.specs.Meshes.{triangle_lists}
use Rattle.triangle_meshes.specs.Joined.{raised}
use Rattle.triangle_meshes.proofs.joining.add_parts.Given as goal

abbrev pub invariant-loop-part : goal.invariant-loop-part
invariant-loop-part l = triangle_lists l.out.items ≡ triangle_lists l.fn.out.items
    ++ raised l.by (triangle_lists (take l.part-index l.parts))
