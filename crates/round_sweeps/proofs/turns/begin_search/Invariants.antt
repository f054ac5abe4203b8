use Rattle.std.proofs.Common.{◌≡◌, ◌<◌, ℕ}
use Rattle.round_sweeps.specs.Columns.{at_row}
use Rattle.round_sweeps.specs.Searches.{gone}
use Rattle.round_sweeps.proofs.turns.begin_search.Given as goal

abbrev pub invariant-loop-row : goal.invariant-loop-row
invariant-loop-row l = record {
  gone : (k : ℕ) → k < l.row → at_row l.sums k ≡ gone;
}
