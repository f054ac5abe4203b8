use Rattle.std.proofs.Common.{ℕ, ◌<◌}
use Rattle.strip_graph.specs.declared.tilings.Step.{Step}
use Rattle.strip_graph.specs.Strips.{arcs, rows, cols}
use Rattle.strip_graph.specs.Certificates.{StepHolds}
use Rattle.cert_checker.proofs.checking.first_arc.Given as goal

abbrev pub invariant-loop-row : goal.invariant-loop-row
invariant-loop-row l = (i j : ℕ) (s : Step) → i < l.row → StepHolds (arcs l.pair) (rows l.pair) (cols l.pair) l.pi i j s
