use Rattle.std.proofs.Common.{◌≡◌, List, length, map, sum_by, ◌∙◌, ap, arith, sym}
use Rattle.section_core.specs.declared.parts.Contour.{Contour}
use Rattle.plane_geom.specs.RingViews.{ring_views}
use Rattle.correspondence.specs.Nesting.{oriented}
use Rattle.correspondence.specs.Contours.{points_of, contour_at}
use Rattle.correspondence.proofs.ContourReads.{contour_read, outline_read}
use Rattle.correspondence.proofs.Orienting.{is_contour, rings_more, contours_more, id_more, all_rings}
use Rattle.correspondence.proofs.nesting.oriented.Goals as goal

pub ring_from-requires-clause-ids : goal.ring_from-requires-clause-ids
ring_from-requires-clause-ids c =
    let contours = c.as_slice-contours.result.now in
    let points : c.as_slice-points.result.now ≡ contour_at (map points_of contours) c.loop-place.place =
    c.as_slice-points.ensures.value ∙ ap points_of (sym c.index-contours-place.is)
    ∙ contour_read contours c.loop-place.place c.index-contours-place.result c.loop-place-test.true
    c.index-contours-place.is in
    let more = id_more c.args.first_id c.loop-place.place c.loop-place.id contours c.as_slice-points.result.now
    c.loop-place-test.true points c.loop-place.invariant.id in
    omega (
      arith,
      more.1,
      c.requires.ids,
      ap (λ (cs : List Contour). sum_by (λ (x : Contour). length (points_of x)) cs) c.as_slice-contours.ensures.value,
    )

pub loop-place-preserved : goal.loop-place-preserved
loop-place-preserved c =
    let contours = c.as_slice-contours.result.now in
    let place = c.loop-place.place in
    let read = contour_read contours place c.index-contours-place.result c.loop-place-test.true
    c.index-contours-place.is in
    let points : c.as_slice-points.result.now ≡ contour_at (map points_of contours) place =
    c.as_slice-points.ensures.value ∙ ap points_of (sym c.index-contours-place.is) ∙ read in
    let ring = c.in_ok-ring_from.field-0 in
    let outline = outline_read contours c.args.section.now.contours.items place c.as_slice-points.result.now
    c.index-contours-place.result c.as_slice-contours.ensures.value c.requires.outlines c.loop-place-test.true
    c.as_slice-points.ensures.value in
    record {
      rings = rings_more c.args.first_id place c.depth-depth.result c.loop-place.id (map points_of contours)
          c.as_slice-points.result.now c.loop-place.rings.items c.push.new.self.items ring points
          c.depth-depth.ensures.depth c.loop-place.invariant.id c.in_ok-ring_from.ensures.ring
          c.in_ok-push.ensures.items c.loop-place.invariant.rings;
      id = (id_more c.args.first_id place c.loop-place.id contours c.as_slice-points.result.now c.loop-place-test.true
          points c.loop-place.invariant.id).0;
      contours = contours_more c.loop-place.rings.items c.push.new.self.items ring c.in_ok-push.ensures.items
          c.loop-place.invariant.contours (is_contour c.depth-depth.result c.loop-place.id c.as_slice-points.result.now
          ring outline c.in_ok-ring_from.ensures.ring);
    }

pub returns-clause-rings : goal.returns-clause-rings
returns-clause-rings c =
    let contours = c.as_slice-contours.result.now in
    all_rings c.args.first_id c.loop-place.place contours (ring_views c.loop-place.rings.items) (omega arith)
    c.loop-place.invariant.rings
    ∙ ap (λ (cs : List Contour). oriented c.args.first_id (map points_of cs)) c.as_slice-contours.ensures.value
