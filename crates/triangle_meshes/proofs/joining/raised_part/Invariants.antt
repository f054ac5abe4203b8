use Rattle.std.proofs.Common.{◌≡◌, take}
use Rattle.triangle_meshes.specs.Joined.{raised_part}
use Rattle.triangle_meshes.proofs.joining.raised_part.Given as goal

abbrev pub invariant-loop-triangle : goal.invariant-loop-triangle
invariant-loop-triangle l = l.raised.items ≡ raised_part l.by (take l.triangle-index l.part)
