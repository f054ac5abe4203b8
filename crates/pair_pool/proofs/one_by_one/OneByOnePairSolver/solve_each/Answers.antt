use Rattle.pair_pool.proofs.Made.{solves_each}
use Rattle.pair_pool.proofs.one_by_one.OneByOnePairSolver.solve_each.Goals as goal

pub returns-clause-solved : goal.returns-clause-solved
returns-clause-solved c = solves_each c.args.pairs.now c.in_ok-solved.solved.items c.in_ok-solved.ensures
