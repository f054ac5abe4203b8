use Rattle.std.proofs.Common.{arith}
use Rattle.strip_graph.proofs.Bounds.{tiling_cost-below}
use Rattle.strip_graph.proofs.laws.tilings_are_bounded.Goals as goal

pub returns : goal.returns
returns c = λ s i j w p k. omega (arith, tiling_cost-below s i j w p k)
