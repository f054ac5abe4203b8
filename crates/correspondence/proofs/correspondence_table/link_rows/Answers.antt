use Rattle.std.proofs.Common.{◌≡◌, ◌∙◌, ◌+◌, ◌∷◌, [], true, List, Bool, Vec, length, ap, sym, subst}
use Rattle.std.specs.Global.{Global}
use Rattle.std.specs.List.{list_any}
use Rattle.std.proofs.lemmas.List.{map-append}
use Rattle.correspondence.specs.Outlines.{held_layer, name_in}
use Rattle.correspondence.specs.Correspondences.{links_names}
use Rattle.correspondence.specs.Named.{above_of}
use Rattle.correspondence.specs.Graphs.{table_of, AreRows}
use Rattle.correspondence.proofs.RowSteps.{rows_push}
use Rattle.correspondence.proofs.RowReads.{linked_row}
use Rattle.correspondence.proofs.correspondence_table.link_rows.Goals as goal

pub loop-contour-preserved : goal.loop-contour-preserved
loop-contour-preserved c links named =
    let low = c.args.low.now in
    let high = c.args.high.now in
    let i = c.loop-contour.contour-index in
    let row = c.in_ok-link_row.field-0 in
    let linked = linked_row low high i c.contour-item.result c.deref-contour-items.result.now c.deref.result.now
    (above_of c.args.table.now) links row.items c.loop-contour-test.true c.contour-item.is
    c.deref-contour-items.ensures.value c.deref.ensures.value named c.in_ok-link_row.ensures in
    subst (λ (t : List (List Bool)). AreRows t (i + 1) (length high.contours.items)
    (λ i j. list_any (links_names (name_in (held_layer low) i) (name_in (held_layer high) j)) links ≡ true))
    (sym (ap table_of c.in_ok-push.ensures.items
    ∙ map-append (λ (v : Vec Bool Global). v.items) c.loop-contour.rows.items (row ∷ [])))
    (rows_push (table_of c.loop-contour.rows.items) i (length high.contours.items) row.items
    (λ i j. list_any (links_names (name_in (held_layer low) i) (name_in (held_layer high) j)) links ≡ true)
    (c.loop-contour.invariant links named) linked)
