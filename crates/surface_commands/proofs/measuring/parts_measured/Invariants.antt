use Rattle.std.proofs.Common.{take}
use Rattle.std.specs.List.{AllZip}
use Rattle.triangle_meshes.specs.Meshes.{triangle_lists}
use Rattle.surface_commands.specs.Measure.{AreMeasures}
use Rattle.surface_commands.proofs.measuring.parts_measured.Given as goal

abbrev pub invariant-loop-part : goal.invariant-loop-part
invariant-loop-part l = AllZip (AreMeasures l.mesh.vertices.items)
    (take l.part-index (triangle_lists l.mesh.parts.items)) l.all.items
