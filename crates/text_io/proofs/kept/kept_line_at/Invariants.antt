use Rattle.std.proofs.Common.{◌≡◌, ◌+◌, ◌-◌, ◌≤◌, length, drop}
use Rattle.text_io.specs.Text.{lines, kept_from}
use Rattle.text_io.proofs.kept.kept_line_at.Given as goal

abbrev pub invariant-loop-line : goal.invariant-loop-line
invariant-loop-line l = record {
  behind : l.at ≤ l.from;
  within : l.from ≤ length l.bytes;
  passed : l.passed ≤ l.number;
  counted : l.number + l.at ≤ l.passed + l.from;
  same : kept_from (l.passed + 1) (lines (drop l.at l.bytes)) ≡ kept_from (l.number + 1) (lines (drop l.from l.bytes));
  lines : l.passed + length (lines (drop l.at l.bytes)) ≡ l.number + length (lines (drop l.from l.bytes));
}

abbrev pub decreases-loop-line : goal.decreases-loop-line
decreases-loop-line l = length l.bytes - l.from
