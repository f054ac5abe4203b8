use Rattle.std.proofs.Common.{◌≡◌, take}
use Rattle.pair_pool.specs.Solvers.{referents}
use Rattle.surface_core.specs.Surfaces.{strips_in}
use Rattle.surface_core.specs.Objects.{pair_lists, numbered}
use Rattle.surface_core.proofs.objects.all_strips.Given as goal

abbrev pub invariant-loop-pairs : goal.invariant-loop-pairs
invariant-loop-pairs l = referents l.all.items ≡ strips_in (numbered (pair_lists (take l.pairs-index l.lists)))
