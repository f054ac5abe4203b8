use Rattle.std.proofs.Common.{◌∙◌, ◌+◌, ◌<◌, ◌∷◌, [], List, Bool, Vec, length, map, ap, sym, subst, arith}
use Rattle.std.specs.Global.{Global}
use Rattle.std.proofs.lemmas.List.{length-map, map-append}
use Rattle.std.proofs.lemmas.List.FromFn.{length-map-range_with_len}
use Rattle.section_core.specs.declared.parts.Contour.{Contour}
use Rattle.correspondence.specs.declared.bounds.Bounds.{Bounds}
use Rattle.correspondence.specs.Contours.{AreOutlines, points_of, point_lists}
use Rattle.correspondence.specs.Nesting.{depth}
use Rattle.correspondence.specs.Correspondences.{Alike}
use Rattle.correspondence.specs.Overlaps.{EncloseEach}
use Rattle.correspondence.specs.Graphs.{table_of, AreRows}
use Rattle.correspondence.proofs.RowSteps.{rows_push}
use Rattle.correspondence.proofs.RowReads.{alike_row}
use Rattle.correspondence.proofs.correspondence_table.overlap_rows.Goals as goal

pub index-requires-in-loop-i : goal.index-requires-in-loop-i
index-requires-in-loop-i c =
    let low = c.args.low.now in
    omega (
      arith,
      c.in_ok-low_depths.low_depths.ok.0,
      ap length c.in_ok-low_depths.ensures.depths,
      length-map-range_with_len (depth (point_lists low)) 0 (length (point_lists low)),
      length-map low.contours.items points_of,
      low.contours.ok.0,
    )

pub overlap_row-requires-clause-high : goal.overlap_row-requires-clause-high
overlap_row-requires-clause-high c = subst AreOutlines (sym c.deref.ensures.value) c.requires.high

pub overlap_row-requires-clause-depths : goal.overlap_row-requires-clause-depths
overlap_row-requires-clause-depths c =
    let high = c.args.high.now in
    ap length c.deref-in-loop-i.ensures.value ∙ ap length c.in_ok-high_depths.ensures.depths
    ∙ length-map-range_with_len (depth (point_lists high)) 0 (length (point_lists high))
    ∙ length-map high.contours.items points_of ∙ sym (ap length c.deref.ensures.value)

pub overlap_row-requires-clause-bounds : goal.overlap_row-requires-clause-bounds
overlap_row-requires-clause-bounds c = ap length c.deref-in-loop-i-2.ensures.value
    ∙ c.in_ok-high_bounds.ensures.one_each ∙ sym (ap length c.deref.ensures.value)

pub overlap_row-requires-clause-enclosed : goal.overlap_row-requires-clause-enclosed
overlap_row-requires-clause-enclosed c =
    let high = c.args.high.now in
    let bounds = c.deref-in-loop-i-2.result.now in
    subst (λ (cs : List Contour). EncloseEach bounds (map points_of cs) (length cs)) (sym c.deref.ensures.value)
    (subst (λ (bs : List Bounds). EncloseEach bs (point_lists high) (length high.contours.items))
    (sym c.deref-in-loop-i-2.ensures.value) c.in_ok-high_bounds.ensures.enclosed)

pub loop-i-preserved : goal.loop-i-preserved
loop-i-preserved c =
    let low = c.args.low.now in
    let high = c.args.high.now in
    let i = c.loop-i.i in
    let R = Alike (point_lists low) (point_lists high) in
    let within : i < length low.contours.items = omega (arith, low.contours.ok.0) in
    let row = alike_row low high i c.index-in-loop-i.result.now c.in_ok-low_depths.low_depths.items
    c.deref-in-loop-i.result.now c.index.result.now c.deref.result.now c.in_ok-row.row.items within c.index.ensures
    c.in_ok-low_depths.ensures.depths c.index-in-loop-i.ensures
    (c.deref-in-loop-i.ensures.value ∙ c.in_ok-high_depths.ensures.depths) c.deref.ensures.value c.in_ok-row.ensures
    in
    subst (λ (t : List (List Bool)). AreRows t (i + 1) (length high.contours.items) R)
    (sym (ap table_of c.in_ok-push.ensures.items
    ∙ map-append (λ (v : Vec Bool Global). v.items) c.loop-i.rows.items (c.in_ok-row.row ∷ [])))
    (rows_push (table_of c.loop-i.rows.items) i (length high.contours.items) c.in_ok-row.row.items R c.loop-i.invariant
    row)
