use Rattle.std.proofs.Common.{◌≡◌}
use Rattle.pair_pool.specs.Solvers.{referents}
use Rattle.section_slices.proofs.DenseGaps.{strips_so_far}
use Rattle.section_slices.proofs.gaps.dense_strips.Given as goal

abbrev pub invariant-loop-pair : goal.invariant-loop-pair
invariant-loop-pair l = referents l.strips.items ≡ strips_so_far l.sections l.pairs l.pair-index
