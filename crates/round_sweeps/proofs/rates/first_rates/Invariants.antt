use Rattle.round_sweeps.proofs.RateLaws.{AreFirstRates}
use Rattle.round_sweeps.proofs.rates.first_rates.Given as goal

abbrev pub invariant-loop-row : goal.invariant-loop-row
invariant-loop-row g l = record {
  first : AreFirstRates l.row (g.C.ColumnCosts.downs l.column) l.rates;
}
