use Rattle.std.proofs.Common.{◌≡◌, ◌++◌, take}
use Rattle.std.specs.List.{flat_map}
use Rattle.triangle_meshes.specs.Meshes.{triangle_lists}
use Rattle.byu_text.specs.Byu.{polygon_line}
use Rattle.byu_text.proofs.texts.write_byu.Given as goal

abbrev pub invariant-loop-part : goal.invariant-loop-part
invariant-loop-part l = l.text.items ≡ l.initial.text.items
    ++ flat_map (flat_map polygon_line) (take l.part-index (triangle_lists l.mesh.parts.items))
