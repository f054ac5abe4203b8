use Rattle.std.proofs.Common.{map, ◌+◌, ◌-◌, ◌*◌, ◌≤◌, min}
use Rattle.strip_graph.specs.Strips.{arcs}
use Rattle.row_paths.specs.StripCosts.{largest}
use Rattle.row_paths.specs.Searches.{bound_at, last_at, HasCostsBefore}
use Rattle.row_paths.proofs.Rows.{IsFilledFrom}
use Rattle.row_paths.proofs.searches.choose.Given as goal

abbrev pub invariant-loop-col : goal.invariant-loop-col
invariant-loop-col g l = record {
  filled : IsFilledFrom (largest g.C.Sum.Amount.MOST l.from.strip) (arcs l.from.strip) (bound_at l.region.lo.now)
      (last_at l.region.hi.now) l.region.end l.region.width l.from.row (map g.C.Sum.Amount.value l.sums) l.fn.ways
      l.ways l.col (g.C.Sum.Amount.value l.cost);
  below : HasCostsBefore (largest g.C.Sum.Amount.MOST l.from.strip) (arcs l.from.strip) (bound_at l.region.lo.now)
      (last_at l.region.hi.now) l.region.end l.region.width (l.from.row + 1) (map g.C.Sum.Amount.value l.sums) l.col;
  low : min l.first l.last ≤ l.col;
  count : l.steps ≤ l.fn.steps + 2 * (l.last - l.col);
}
