use Rattle.std.proofs.Common.{◌≡◌, ◌≤◌, ◌-◌, length, take, replicate}
use Rattle.byu_text.proofs.read_fields.behind_blanks.Given as goal

abbrev pub decreases-loop-blanks : goal.decreases-loop-blanks
decreases-loop-blanks l = length l.field - l.blanks

abbrev pub invariant-loop-blanks : goal.invariant-loop-blanks
invariant-loop-blanks l = record {
  within : l.blanks ≤ length l.field;
  blanks : take l.blanks l.field ≡ replicate l.blanks 32;
}
