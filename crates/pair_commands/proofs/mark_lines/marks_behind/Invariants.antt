use Rattle.std.proofs.Common.{◌+◌, ◌-◌, ◌*◌, ◌≤◌, length, drop}
use Rattle.text_io.specs.Text.{lines, kept_from}
use Rattle.pair_commands.specs.MarkReading.{MarksSoFar}
use Rattle.pair_commands.proofs.mark_lines.marks_behind.Given as goal

abbrev pub invariant-loop-line : goal.invariant-loop-line
invariant-loop-line l = record {
  within : l.from ≤ length l.bytes;
  counted : l.number + l.at ≤ l.passed + l.from;
  short : 4 * length l.marks.items ≤ l.from;
  so_far : MarksSoFar (kept_from (l.passed + 1) (lines (drop l.at l.bytes))) l.marks.items
      (kept_from (l.number + 1) (lines (drop l.from l.bytes)));
}

abbrev pub decreases-loop-line : goal.decreases-loop-line
decreases-loop-line l = length l.bytes - l.from
