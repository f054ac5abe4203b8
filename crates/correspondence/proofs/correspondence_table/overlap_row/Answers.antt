use Rattle.std.proofs.Common.{◌≡◌, ◌↔◌, ◌+◌, true, map, subst, sym, List, Bool, slice_index_or, get_or, pos}
use Rattle.fku_types.specs.declared.points.Point.{Point}
use Rattle.correspondence.specs.declared.bounds.Bounds.{Bounds}
use Rattle.correspondence.specs.Bounding.{Encloses}
use Rattle.correspondence.specs.Contours.{points_of, contour_at}
use Rattle.correspondence.proofs.ContourReads.{contour_read}
use Rattle.correspondence.specs.Overlaps.{Overlap}
use Rattle.correspondence.specs.Correspondences.{same_parity}
use Rattle.correspondence.specs.Graphs.{IsRow}
use Rattle.correspondence.proofs.RowSteps.{row_push}
use Rattle.correspondence.proofs.correspondence_table.overlap_row.Goals as goal

pub are_alike-requires-clause-low_bounds : goal.are_alike-requires-clause-low_bounds
are_alike-requires-clause-low_bounds c =
    subst (Encloses c.of-low_bounds.result) c.deref.ensures.value c.of-low_bounds.ensures

pub are_alike-requires-clause-high_bounds : goal.are_alike-requires-clause-high_bounds
are_alike-requires-clause-high_bounds c =
    let high = c.args.high.now in
    let j = c.loop-j.j in
    let none : Bounds = record { min_x = pos 0; max_x = pos 0; min_y = pos 0; max_y = pos 0 } in
    subst (Encloses (get_or c.args.bounds.now j none))
    (sym (contour_read high j c.index-high-j.result c.loop-j-test.true c.index-high-j.is))
    (c.requires.enclosed j none c.loop-j-test.true)

pub loop-j-preserved : goal.loop-j-preserved
loop-j-preserved c =
    let high = c.args.high.now in
    let j = c.loop-j.j in
    let read = contour_read high j c.index-high-j.result c.loop-j-test.true c.index-high-j.is in
    let alike = subst (λ (p : List Point). (c.are_alike.result ≡ true)
    ↔ ((same_parity c.args.depth (slice_index_or c.args.depths.now j 0) ≡ true)
    × Overlap (points_of c.args.low.now) p)) read c.are_alike.ensures in
    subst (λ (r : List Bool). IsRow r (j + 1)
    (λ j. (same_parity c.args.depth (slice_index_or c.args.depths.now j 0) ≡ true)
    × Overlap (points_of c.args.low.now) (contour_at (map points_of high) j))) (sym c.in_ok-push.ensures.items)
    (row_push c.loop-j.row.items j c.are_alike.result
    (λ j. (same_parity c.args.depth (slice_index_or c.args.depths.now j 0) ≡ true)
    × Overlap (points_of c.args.low.now) (contour_at (map points_of high) j)) c.loop-j.invariant alike)
