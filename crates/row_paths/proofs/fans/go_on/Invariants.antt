use Rattle.std.proofs.Common.{◌+◌, ◌-◌, ◌≤◌, map}
use Rattle.strip_graph.specs.Strips.{arcs}
use Rattle.row_paths.specs.StripCosts.{largest}
use Rattle.row_paths.specs.Searches.{bound_at, last_at}
use Rattle.row_paths.proofs.FanLaws.{IsReachedTo}
use Rattle.row_paths.proofs.fans.go_on.Given as goal

abbrev pub invariant-loop-col : goal.invariant-loop-col
invariant-loop-col g l = record {
  reached : IsReachedTo (largest g.C.Sum.Amount.MOST l.from.strip) (arcs l.from.strip) (bound_at l.region.lo.now)
      (last_at l.region.hi.now) l.region.start l.left l.from.row (map g.C.Sum.Amount.value l.sums) l.col
      (g.C.Sum.Amount.value l.sum);
  count : l.steps ≤ l.fn.steps + (l.col - l.first);
}
