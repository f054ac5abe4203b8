use Rattle.std.proofs.Common.{◌≡◌, ◌+◌, ◌-◌, ◌≤◌, length, drop}
use Rattle.text_io.specs.Text.{lines}
use Rattle.text_io.proofs.kept.line_count.Given as goal

abbrev pub invariant-loop-line : goal.invariant-loop-line
invariant-loop-line l = record {
  behind : l.at ≤ l.from;
  within : l.from ≤ length l.bytes;
  few : l.count + l.at ≤ l.from;
  lines : length (lines (drop l.at l.bytes)) ≡ l.count + length (lines (drop l.from l.bytes));
}

abbrev pub decreases-loop-line : goal.decreases-loop-line
decreases-loop-line l = length l.bytes - l.from
