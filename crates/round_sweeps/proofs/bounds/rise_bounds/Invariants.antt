use Rattle.std.proofs.Common.{◌≡◌, ◌<◌, ℕ, ◌+ℤ◌, ◌-ℤ◌, ◌^◌, unsigned_abs}
use Rattle.round_sweeps.specs.Columns.{at_row, table_at}
use Rattle.round_sweeps.proofs.bounds.rise_bounds.Given as goal

abbrev pub invariant-loop-row : goal.invariant-loop-row
invariant-loop-row l = record {
  are : (r : ℕ) → r < l.row → at_row l.bounds r
      ≡ (table_at l.rows l.table r l.cols -ℤ table_at l.rows l.table r 0) +ℤ l.round;
  fit : (r : ℕ) → r < l.row → unsigned_abs (at_row l.bounds r) < 2 ^ 63;
}
