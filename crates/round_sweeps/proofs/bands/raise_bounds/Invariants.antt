use Rattle.round_sweeps.specs.Tables.{AreFitBounds}
use Rattle.round_sweeps.proofs.bands.raise_bounds.Given as goal

abbrev pub invariant-loop-row : goal.invariant-loop-row
invariant-loop-row g l = record {
  known : AreFitBounds (g.S.StripColumns.costs l.costs) l.rows l.cols l.bounds;
}
