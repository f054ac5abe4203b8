use Rattle.std.proofs.Common.{◌+◌, ◌-◌, ◌*◌, ◌≤◌, map, max}
use Rattle.strip_graph.specs.Strips.{arcs}
use Rattle.row_paths.specs.Counts.{area}
use Rattle.row_paths.specs.StripCosts.{largest}
use Rattle.row_paths.specs.Searches.{bound_at, last_at}
use Rattle.row_paths.specs.Fans.{HasReached, HasEnds}
use Rattle.row_paths.proofs.fans.fill_ends.Given as goal

abbrev pub invariant-loop-row : goal.invariant-loop-row
invariant-loop-row g l = record {
  reached : HasReached (largest g.C.Sum.Amount.MOST l.strip) (arcs l.strip) (bound_at l.region.lo.now)
      (last_at l.region.hi.now) l.region.start l.left l.row (map g.C.Sum.Amount.value l.sums)
      (last_at l.region.hi.now l.row);
  ends : HasEnds (arcs l.strip) (bound_at l.region.lo.now) (last_at l.region.hi.now) l.region.start l.left
      l.region.width l.row (map g.C.Sum.Amount.value l.ends);
  left : l.left ≤ last_at l.region.hi.now l.row;
  count : l.steps ≤ l.fn.steps + 2 * area (λ x. max (bound_at l.region.lo.now x) l.left) (last_at l.region.hi.now)
      l.region.start (l.row + 1 - l.region.start);
}
