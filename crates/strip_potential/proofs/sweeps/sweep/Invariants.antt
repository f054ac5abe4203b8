use Rattle.std.proofs.Common.{◌+◌}
use Rattle.strip_potential.specs.Rows.{HasRow, HasRows}
use Rattle.strip_potential.proofs.sweeps.sweep.Given as goal

abbrev pub invariant-loop-row : goal.invariant-loop-row
invariant-loop-row l = record {
  values : HasRow l.pair l.row l.values;
  pi : HasRows l.pair (l.row + 1) l.pi.items;
}
