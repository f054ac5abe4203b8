use Rattle.std.proofs.Common.{◌+◌, ◌-◌, ◌*◌, ◌≤◌, map}
use Rattle.strip_graph.specs.Strips.{arcs}
use Rattle.row_paths.specs.Counts.{area}
use Rattle.row_paths.specs.StripCosts.{largest}
use Rattle.row_paths.specs.Searches.{bound_at, last_at, HasCosts, HasAllWays}
use Rattle.row_paths.specs.Fans.{HasStarts}
use Rattle.row_paths.proofs.searches.fill.Given as goal

abbrev pub invariant-loop-k : goal.invariant-loop-k
invariant-loop-k g l = record {
  costs : HasCosts (largest g.C.Sum.Amount.MOST l.strip) (arcs l.strip) (bound_at l.region.lo.now)
      (last_at l.region.hi.now) l.region.end l.region.width (l.region.end - l.k) (map g.C.Sum.Amount.value l.sums)
      (bound_at l.region.lo.now (l.region.end - l.k));
  starts : HasStarts (arcs l.strip) (bound_at l.region.lo.now) (last_at l.region.hi.now) l.region.end l.region.width
      (l.region.end - l.k) (map g.C.Sum.Amount.value l.starts);
  ways : HasAllWays (arcs l.strip) (bound_at l.region.lo.now) (last_at l.region.hi.now) l.region.end l.region.width
      l.ways (l.region.end - l.k);
  count : l.steps ≤ l.fn.steps + 2 * area (bound_at l.region.lo.now) (last_at l.region.hi.now) (l.region.end - l.k)
      (l.k + 1);
}
