use Rattle.strip_graph.specs.Layouts.{IsUnrolled}
use Rattle.strip_graph.proofs.layout.unrolled.Given as goal

abbrev pub invariant-loop-k : goal.invariant-loop-k
invariant-loop-k l = IsUnrolled l.ring l.points.items l.k
