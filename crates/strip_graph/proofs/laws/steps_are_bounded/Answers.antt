use Rattle.std.proofs.Common.{arith}
use Rattle.strip_graph.proofs.Bounds.{arcs-below, areas-below, spans-below}
use Rattle.strip_graph.proofs.laws.steps_are_bounded.Goals as goal

pub returns-clause-span : goal.returns-clause-span
returns-clause-span c = λ s i j t p e. spans-below s p e i j t

pub returns-clause-area : goal.returns-clause-area
returns-clause-area c = λ s i j t p e. omega (arith, areas-below s p e i j t)

pub returns-clause-any : goal.returns-clause-any
returns-clause-any c = λ s i j t p. arcs-below s p i j t
