use Rattle.std.proofs.Common.{◌≡◌, take}
use Rattle.pair_pool.specs.Solvers.{referents}
use Rattle.pair_pool.proofs.solvers.references.Given as goal

abbrev pub invariant-loop-pair : goal.invariant-loop-pair
invariant-loop-pair l = referents l.each.items ≡ take l.pair-index l.pairs
