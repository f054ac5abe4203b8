use Rattle.std.proofs.Common.{◌≡◌, map, flat_map, filter}
use Rattle.std.specs.List.{range_with_len}
use Rattle.section_core.specs.Views.{link_parts}
use Rattle.correspondence.specs.Outlines.{held_layer}
use Rattle.section_pairs.specs.Pairs.{pair_parts}
use Rattle.section_slices.specs.Densified.{is_in, pair_at, pair_links}
use Rattle.section_slices.proofs.links.dense_links.Given as goal

abbrev pub invariant-loop-place : goal.invariant-loop-place
invariant-loop-place l =
    map link_parts l.links.items ≡ flat_map
    (λ k. pair_links (held_layer l.low) (held_layer l.high) (pair_at (map pair_parts l.pairs) k) k)
    (filter (λ k. is_in l.gap (pair_at (map pair_parts l.pairs) k)) (range_with_len 0 l.place))
