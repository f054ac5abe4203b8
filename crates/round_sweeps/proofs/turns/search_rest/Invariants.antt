use Rattle.strip_graph.specs.Feasible.{lifted}
use Rattle.round_sweeps.specs.Columns.{table_at}
use Rattle.round_sweeps.specs.Searches.{AreSumsOf, IsWindow, IsSearchedTo}
use Rattle.round_sweeps.proofs.turns.search_rest.Given as goal

abbrev pub invariant-loop-col : goal.invariant-loop-col
invariant-loop-col g l = record {
  searched : IsSearchedTo (g.S.StripColumns.costs l.costs) (lifted l.rows l.round (table_at l.rows l.table)) l.start
      l.rows l.cols l.limit l.col l.sums l.ways;
  sums : AreSumsOf l.rows l.sums;
  window : IsWindow l.rows l.left.first l.left.last l.sums;
}
