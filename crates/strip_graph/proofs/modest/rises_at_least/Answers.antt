use Rattle.std.proofs.Common.{arith}
use Rattle.std.proofs.lemmas.Int.{ints}
use Rattle.strip_graph.proofs.modest.rises_at_least.Goals as goal

pub returns : goal.returns
returns c = ((λ t. grind (arith, ints)), (λ h. grind (arith, ints)))
