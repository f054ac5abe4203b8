use Rattle.pair_pool.proofs.SolutionLists.{few_cost_little}
use Rattle.pair_pool.proofs.laws.sums_are_bounded.Goals as goal

pub returns : goal.returns
returns c = few_cost_little
