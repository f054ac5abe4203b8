use Rattle.std.proofs.Common.{◌*◌, ◌+◌, length}
use Rattle.correspondence.specs.Graphs.{table_of, adjacent, unmarked_count}
use Rattle.correspondence.proofs.Visiting.{Reaching}
use Rattle.correspondence.proofs.graph.reached.Given as goal

abbrev pub invariant-loop-node : goal.invariant-loop-node
invariant-loop-node l = Reaching (adjacent (table_of l.rows)) l.root l.size l.marks.items l.waiting.items

abbrev pub decreases-loop-node : goal.decreases-loop-node
decreases-loop-node l = 2 * unmarked_count l.marks.items + length l.waiting.items
