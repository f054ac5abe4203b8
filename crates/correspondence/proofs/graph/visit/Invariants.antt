use Rattle.correspondence.specs.Graphs.{table_of, adjacent, Visits}
use Rattle.correspondence.proofs.graph.visit.Given as goal

abbrev pub invariant-loop-to : goal.invariant-loop-to
invariant-loop-to l = Visits (adjacent (table_of l.rows)) l.from l.to l.initial.marks l.marks l.initial.waiting.items
    l.waiting.items
