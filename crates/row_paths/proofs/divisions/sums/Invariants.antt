use Rattle.std.proofs.Common.{◌≡◌, ◌-◌, length}
use Rattle.row_paths.proofs.divisions.sums.Given as goal

abbrev pub invariant-loop-turn : goal.invariant-loop-turn
invariant-loop-turn g l = length l.sums.items ≡ l.turn - l.gap.first - 1
