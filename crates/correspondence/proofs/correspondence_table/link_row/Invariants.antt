use Rattle.std.proofs.Common.{◌≡◌, true, [], map, slice_index_or, bytes_eq}
use Rattle.std.specs.List.{list_any}
use Rattle.correspondence.specs.Graphs.{IsRow}
use Rattle.correspondence.specs.Named.{above_of}
use Rattle.correspondence.proofs.correspondence_table.link_row.Given as goal

abbrev pub invariant-loop-contour : goal.invariant-loop-contour
invariant-loop-contour l = IsRow l.row.items l.contour-index
    (λ j. list_any (bytes_eq (slice_index_or (map (λ c. c.name) l.high) j [])) (above_of l.table l.low.name) ≡ true)
