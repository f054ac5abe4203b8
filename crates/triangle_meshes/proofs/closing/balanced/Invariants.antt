use Rattle.std.proofs.Common.{All, take}
use Rattle.triangle_meshes.specs.Meshes.{triangle_lists}
use Rattle.plane_geom.specs.Rings.{IsClosed}
use Rattle.triangle_meshes.proofs.closing.balanced.Given as goal

abbrev pub invariant-loop-part : goal.invariant-loop-part
invariant-loop-part l = All IsClosed (take l.part-index (triangle_lists l.mesh.parts.items))
