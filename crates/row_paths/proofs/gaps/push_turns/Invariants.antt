use Rattle.strip_graph.specs.Strips.{arcs, rows, cols}
use Rattle.row_paths.specs.Turns.{AreCosts}
use Rattle.row_paths.proofs.gaps.push_turns.Given as goal

abbrev pub invariant-loop-turn : goal.invariant-loop-turn
invariant-loop-turn g l = AreCosts (arcs l.strip) (rows l.strip) (cols l.strip) l.turn l.costs.items
