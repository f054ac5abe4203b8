use Rattle.std.proofs.Common.{arith}
use Rattle.std.proofs.lemmas.Int.{ints}
use Rattle.surface_core.proofs.Totals.{cost_few}
use Rattle.surface_core.proofs.assembly.cost_of.Goals as goal

pub returns-clause-few : goal.returns-clause-few
returns-clause-few c =
    let k = cost_few c.args.pair.now c.args.solved.now c.low-low.ensures.strip c.requires in
    omega (arith, ints, k.0, k.1, c.cost.ensures)
