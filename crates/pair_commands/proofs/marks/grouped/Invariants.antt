use Rattle.std.proofs.Common.{map, take}
use Rattle.section_pairs.specs.Pairs.{pair_parts}
use Rattle.pair_commands.specs.MarkReading.{AreGrouped, lists_in}
use Rattle.pair_commands.proofs.marks.grouped.Given as goal

abbrev pub invariant-loop-place : goal.invariant-loop-place
invariant-loop-place l = AreGrouped (map pair_parts l.pairs) (take l.place l.marks) (lists_in l.groups.items)
