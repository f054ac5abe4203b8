use Rattle.std.proofs.Common.{◌≡◌, ◌+◌, ◌≤◌, length, drop}
use Rattle.text_io.specs.Text.{lines, kept_from}
use Rattle.surface_commands.specs.EditSteps.{kept_in}
use Rattle.surface_commands.proofs.editing.line_too_many.Given as goal

abbrev pub invariant-loop : goal.invariant-loop
invariant-loop l = record {
  within : l.at ≤ length l.input;
  passed : l.number ≤ l.at;
  behind : drop l.counter (kept_in l.input l.fn.tail)
      ≡ kept_from (l.number + 1) (lines (drop l.at l.input));
}
