use Rattle.std.proofs.Common.{◌≡◌, map, flat_map}
use Rattle.std.specs.List.{range_with_len}
use Rattle.section_core.specs.Views.{link_parts}
use Rattle.correspondence.specs.Outlines.{held_layer, name_in}
use Rattle.correspondence.specs.Graphs.{cell, table_of}
use Rattle.section_slices.specs.Densified.{row_links}
use Rattle.section_slices.proofs.links.marked_links.Given as goal

abbrev pub invariant-loop-i : goal.invariant-loop-i
invariant-loop-i l = map link_parts l.links.items
    ≡ flat_map (λ i. row_links (name_in (held_layer l.low) i) (held_layer l.high).names (cell (table_of l.table) i))
    (range_with_len 0 l.i)
