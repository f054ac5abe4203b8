use Rattle.std.proofs.Common.{◌≡◌, flat_map, take}
use Rattle.pair_pool.specs.Solvers.{referents}
use Rattle.section_slices.proofs.ObjectSlices.{held}
use Rattle.section_slices.proofs.objects.all_strips.Given as goal

abbrev pub invariant-loop-strips : goal.invariant-loop-strips
invariant-loop-strips l = referents l.all.items ≡ flat_map held (take l.strips-index l.each)
