use Rattle.std.proofs.Common.{◌≡◌, ◌++◌, take}
use Rattle.std.specs.List.{flat_map}
use Rattle.byu_text.specs.Byu.{polygon_line}
use Rattle.byu_text.proofs.texts.write_polygons.Given as goal

abbrev pub invariant-loop-triangle : goal.invariant-loop-triangle
invariant-loop-triangle l = l.text.items ≡ l.initial.text.items
    ++ flat_map polygon_line (take l.triangle-index l.triangles)
