use Rattle.std.proofs.Common.{◌≡◌, ◌++◌, [], map, filter, get_or}
use Rattle.std.specs.List.{range_with_len}
use Rattle.section_core.specs.Views.{link_parts}
use Rattle.correspondence.specs.Graphs.{mark}
use Rattle.section_slices.specs.Densified.{link}
use Rattle.section_slices.proofs.links.add_row.Given as goal

abbrev pub invariant-loop-j : goal.invariant-loop-j
invariant-loop-j l =
    map link_parts l.links.items ≡ map link_parts l.fn.links.items
    ++ map (λ j. link l.low.name (get_or (map (λ c. c.name) l.high) j []))
    (filter (mark l.row) (range_with_len 0 l.j))
