use Rattle.round_sweeps.proofs.RateLaws.{AreLowered}
use Rattle.round_sweeps.proofs.rates.lower_rates.Given as goal

abbrev pub invariant-loop-row : goal.invariant-loop-row
invariant-loop-row g l = record {
  lowered : AreLowered l.fn.rates l.rates;
}
