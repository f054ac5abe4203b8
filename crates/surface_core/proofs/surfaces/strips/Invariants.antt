use Rattle.std.proofs.Common.{◌≡◌, take, map}
use Rattle.section_pairs.specs.Pairs.{pair_parts}
use Rattle.pair_pool.specs.Solvers.{referents}
use Rattle.surface_core.specs.Surfaces.{strips_in}
use Rattle.surface_core.proofs.surfaces.strips.Given as goal

abbrev pub invariant-loop-pair : goal.invariant-loop-pair
invariant-loop-pair l = referents l.strips.items ≡ strips_in (map pair_parts (take l.pair-index l.pairs))
