use Rattle.std.proofs.Common.{◌-◌, ◌*◌, length}
use Rattle.round_sweeps.specs.Searches.{AreSumsOf}
use Rattle.round_sweeps.proofs.bands.fill_ends.Given as goal

abbrev pub invariant-loop-row : goal.invariant-loop-row
invariant-loop-row l = record {
  ends : AreSumsOf (2 * length l.last - 1) l.ends;
}
