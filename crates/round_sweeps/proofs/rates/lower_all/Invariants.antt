use Rattle.round_sweeps.proofs.RateLaws.{AreLowered}
use Rattle.round_sweeps.proofs.rates.lower_all.Given as goal

abbrev pub invariant-loop-col : goal.invariant-loop-col
invariant-loop-col g l = record {
  lowered : AreLowered l.fn.rates l.rates;
}
