use Rattle.pair_pool.proofs.SolutionLists.{one_solutions}
use Rattle.pair_pool.proofs.laws.solutions_are_one.Goals as goal

pub returns : goal.returns
returns c = one_solutions
