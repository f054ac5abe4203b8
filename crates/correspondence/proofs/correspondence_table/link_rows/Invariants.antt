use Rattle.std.proofs.Common.{◌≡◌, true, List, length}
use Rattle.std.specs.List.{list_any}
use Rattle.section_core.specs.Parts.{LinkParts}
use Rattle.correspondence.specs.Outlines.{held_layer, name_in}
use Rattle.correspondence.specs.Correspondences.{links_names}
use Rattle.correspondence.specs.Named.{IsLinkTableOf}
use Rattle.correspondence.specs.Graphs.{table_of, AreRows}
use Rattle.correspondence.proofs.correspondence_table.link_rows.Given as goal

abbrev pub invariant-loop-contour : goal.invariant-loop-contour
invariant-loop-contour l = (links : List LinkParts) → IsLinkTableOf l.table links
    → AreRows (table_of l.rows.items) l.contour-index (length l.high.contours.items)
    (λ i j. list_any (links_names (name_in (held_layer l.low) i) (name_in (held_layer l.high) j)) links ≡ true)
