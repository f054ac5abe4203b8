use Rattle.std.proofs.Common.{◌≡◌, ◌+◌}
use Rattle.plain_tables.proofs.tables.first_word.Given as goal

abbrev pub invariant-loop-letter : goal.invariant-loop-letter
invariant-loop-letter g l = l.steps ≡ l.fn.steps + l.letter
