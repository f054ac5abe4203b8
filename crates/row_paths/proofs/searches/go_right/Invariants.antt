use Rattle.std.proofs.Common.{map, ◌+◌, ◌-◌, ◌≤◌, min}
use Rattle.strip_graph.specs.Strips.{arcs}
use Rattle.row_paths.specs.StripCosts.{largest}
use Rattle.row_paths.specs.Searches.{bound_at, last_at}
use Rattle.row_paths.proofs.Rows.{IsFilledFrom}
use Rattle.row_paths.proofs.searches.go_right.Given as goal

abbrev pub invariant-loop-col : goal.invariant-loop-col
invariant-loop-col g l = record {
  filled : IsFilledFrom (largest g.C.Sum.Amount.MOST l.from.strip) (arcs l.from.strip) (bound_at l.region.lo.now)
      (last_at l.region.hi.now) l.region.end l.region.width l.from.row (map g.C.Sum.Amount.value l.sums) l.fn.ways
      l.ways l.col (g.C.Sum.Amount.value l.cost);
  low : min l.first l.last ≤ l.col;
  count : l.steps ≤ l.fn.steps + (l.last - l.col);
}
