use Rattle.std.proofs.Common.{◌+◌, ◌-◌, ◌*◌, ◌≤◌, map}
use Rattle.strip_graph.specs.Strips.{arcs}
use Rattle.row_paths.specs.StripCosts.{largest}
use Rattle.row_paths.specs.Searches.{bound_at, last_at}
use Rattle.row_paths.specs.Fans.{HasReachedAfter}
use Rattle.row_paths.proofs.FanLaws.{IsReachedTo}
use Rattle.row_paths.proofs.fans.choose_on.Given as goal

abbrev pub invariant-loop-col : goal.invariant-loop-col
invariant-loop-col g l = record {
  reached : IsReachedTo (largest g.C.Sum.Amount.MOST l.above.strip) (arcs l.above.strip) (bound_at l.region.lo.now)
      (last_at l.region.hi.now) l.region.start l.left (l.above.row + 1) (map g.C.Sum.Amount.value l.sums) l.col
      (g.C.Sum.Amount.value l.sum);
  after : HasReachedAfter (largest g.C.Sum.Amount.MOST l.above.strip) (arcs l.above.strip) (bound_at l.region.lo.now)
      (last_at l.region.hi.now) l.region.start l.left l.above.row (map g.C.Sum.Amount.value l.sums) l.col;
  count : l.steps ≤ l.fn.steps + 2 * (l.col - l.first);
}
