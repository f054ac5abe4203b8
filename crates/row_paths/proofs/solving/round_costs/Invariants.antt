use Rattle.std.proofs.Common.{◌≡◌, ℕ, ◌*◌, ◌<◌, length, get_or}
use Rattle.row_paths.proofs.solving.round_costs.Given as goal

abbrev pub invariant-loop-row : goal.invariant-loop-row
invariant-loop-row l = record {
  count : length l.rounds.items ≡ l.row;
  are : (k : ℕ) → k < l.row → get_or l.rounds.items k 0 ≡ get_or l.costs (2 * k) 0;
}
