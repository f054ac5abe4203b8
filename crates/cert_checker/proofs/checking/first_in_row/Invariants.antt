use Rattle.std.proofs.Common.{ℕ, ◌<◌}
use Rattle.strip_graph.specs.declared.tilings.Step.{Step}
use Rattle.strip_graph.specs.Strips.{arcs}
use Rattle.cert_checker.specs.Steps.{RowStepHolds}
use Rattle.cert_checker.proofs.checking.first_in_row.Given as goal

abbrev pub invariant-loop-c : goal.invariant-loop-c
invariant-loop-c l = (k : ℕ) (s : Step) → k < l.c → RowStepHolds (arcs l.steps.strip) l.steps.row l.here l.below k s
