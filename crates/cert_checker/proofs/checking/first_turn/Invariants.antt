use Rattle.std.proofs.Common.{ℕ, ◌<◌}
use Rattle.strip_graph.specs.Strips.{rows, cols}
use Rattle.strip_graph.specs.Certificates.{TurnHolds}
use Rattle.cert_checker.proofs.checking.first_turn.Given as goal

abbrev pub invariant-loop-row : goal.invariant-loop-row
invariant-loop-row l = (i : ℕ) → i < l.row → TurnHolds (rows l.pair) (cols l.pair) l.pi l.cost i
