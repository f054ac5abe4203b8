use Rattle.std.proofs.Common.{take, map}
use Rattle.section_pairs.specs.Pairs.{pair_parts}
use Rattle.surface_core.specs.Surfaces.{joined_on}
use Rattle.surface_core.specs.Marks.{AreSetAt}
use Rattle.surface_core.proofs.assembly_marks.marks_on.Given as goal

abbrev pub invariant-loop-pair : goal.invariant-loop-pair
invariant-loop-pair l = AreSetAt l.marks.items l.count
    (joined_on l.face (map pair_parts (take l.pair-index l.pairs)) l.section)
