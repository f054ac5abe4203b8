use Rattle.std.proofs.Common.{◌-◌, ◌*◌}
use Rattle.strip_graph.specs.Feasible.{lifted}
use Rattle.round_sweeps.specs.Columns.{at_row, table_at}
use Rattle.round_sweeps.specs.Searches.{AreSumsOf, IsWindow}
use Rattle.round_sweeps.specs.Bands.{IsBand}
use Rattle.round_sweeps.proofs.bands.search_band.Given as goal

abbrev pub invariant-loop-col : goal.invariant-loop-col
invariant-loop-col g l = record {
  band : IsBand (g.S.StripColumns.costs l.costs) (lifted l.rows l.round (table_at l.rows l.table)) l.start
      (2 * l.rows - 1) l.cols l.limit l.col (at_row l.ends) (at_row l.sums);
  sums : AreSumsOf (2 * l.rows - 1) l.sums;
  window : IsWindow (2 * l.rows - 1) l.left.first l.left.last l.sums;
}
