use Rattle.std.proofs.Common.{take}
use Rattle.surface_core.specs.Marks.{Marks}
use Rattle.surface_core.proofs.assembly_marks.mark.Given as goal

abbrev pub invariant-loop-place : goal.invariant-loop-place
invariant-loop-place l = Marks l.initial.marks l.marks (take l.place-index l.places)
