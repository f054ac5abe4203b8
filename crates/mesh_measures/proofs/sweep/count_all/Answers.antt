use Rattle.std.proofs.Common.{arith}
use Rattle.mesh_measures.proofs.Rests.{pairs_fit}
use Rattle.mesh_measures.proofs.sweep.count_all.Goals as goal

pub overflow_add-pairs : goal.overflow_add-pairs
overflow_add-pairs c =
    let fit = pairs_fit c.args.sorted.now c.requires.few in
    omega (arith, c.from-pairs.ensures, c.count_from.ensures.own, c.loop-place.invariant.pairs)
