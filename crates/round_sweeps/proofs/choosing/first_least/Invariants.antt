use Rattle.round_sweeps.specs.Columns.{IsFirstLeastAmong}
use Rattle.round_sweeps.proofs.choosing.first_least.Given as goal

abbrev pub invariant-loop-row : goal.invariant-loop-row
invariant-loop-row l = record {
  least : IsFirstLeastAmong l.row l.best l.bounds;
}
