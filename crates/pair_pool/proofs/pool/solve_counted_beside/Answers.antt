use Rattle.std.proofs.lemmas.Result.{IfOk-weaker}
use Rattle.pair_pool.specs.Solvers.{SolvesEach, referents}
use Rattle.pair_pool.proofs.Made.{solves_each}
use Rattle.pair_pool.proofs.pool.solve_counted_beside.Goals as goal

pub returns-clause-solved : goal.returns-clause-solved
returns-clause-solved g c =
    let pairs = c.args.pairs.now in
    IfOk-weaker c.made_beside-solutions.result.0 _ (λ v. SolvesEach (referents pairs) v.items)
    (λ v h. solves_each pairs v.items h) c.made_beside-solutions.ensures.made
