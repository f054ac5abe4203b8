use Rattle.std.proofs.Common.{◌≤◌, map}
use Rattle.section_pairs.specs.Pairs.{pair_parts}
use Rattle.pair_commands.proofs.MarkTexts.{TextSoFar}
use Rattle.pair_commands.proofs.marks.landmarks_text.Given as goal

abbrev pub invariant-loop-i : goal.invariant-loop-i
invariant-loop-i l = record {
  text : TextSoFar (map pair_parts l.pairs) l.marks l.i l.text.items l.count;
  few : l.count ≤ l.i;
}
