use Rattle.std.proofs.Common.{◌≡◌, map}
use Rattle.std.specs.List.{range_with_len}
use Rattle.section_pairs.specs.Pairs.{pair_parts}
use Rattle.section_slices.specs.Densified.{is_dense}
use Rattle.section_slices.proofs.gaps.dense_gaps.Given as goal

abbrev pub invariant-loop-gap : goal.invariant-loop-gap
invariant-loop-gap l = l.dense.items ≡ map (is_dense l.sections (map pair_parts l.pairs)) (range_with_len 0 l.gap)
