use Rattle.std.proofs.Common.{◌≡◌, ◌+◌, ◌-◌}
use Rattle.strip_graph.specs.Strips.{arcs, cols}
use Rattle.strip_graph.proofs.Canonical.{canonical}
use Rattle.row_paths.specs.Searches.{bound_at, last_at}
use Rattle.row_paths.proofs.Traces.{IsTraced}
use Rattle.row_paths.proofs.searches.trace.Given as goal

abbrev pub invariant-loop-letter : goal.invariant-loop-letter
invariant-loop-letter g l = record {
  traced : IsTraced (arcs l.strip) (bound_at l.region.lo.now) (last_at l.region.hi.now) (cols l.strip) l.region.start
      l.region.end (canonical (arcs l.strip) l.region.start 0 (l.region.end - l.region.start) (cols l.strip)).word
      l.path l.row l.col;
  place : l.row + l.col ≡ l.region.start + l.letter;
}
