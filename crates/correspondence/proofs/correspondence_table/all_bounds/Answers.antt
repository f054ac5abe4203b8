use Rattle.std.proofs.Common.{◌≡◌, ◌∙◌, ℕ, ◌∷◌, [], List, length, map, get_or, ap, sym, subst, arith}
use Rattle.std.proofs.lemmas.List.{length-append}
use Rattle.section_core.specs.declared.parts.Contour.{Contour}
use Rattle.correspondence.specs.declared.bounds.Bounds.{Bounds}
use Rattle.correspondence.specs.Bounding.{Encloses}
use Rattle.correspondence.specs.Contours.{points_of, point_lists, contour_at}
use Rattle.correspondence.proofs.ContourReads.{contour_read, outline_read}
use Rattle.correspondence.proofs.RowSteps.{item_push}
use Rattle.correspondence.proofs.correspondence_table.all_bounds.Goals as goal

pub of-requires : goal.of-requires
of-requires c =
    let held = c.deref-contour-items.result.now in
    let outline = outline_read held c.args.section.now.contours.items c.loop-contour.contour-index c.deref.result.now
    c.contour-item.result c.deref-contour-items.ensures.value c.requires c.loop-contour-test.true
    (c.deref.ensures.value ∙ ap points_of c.contour-item.is) in
    omega (arith, outline.enough)

pub loop-contour-preserved : goal.loop-contour-preserved
loop-contour-preserved c =
    let held = c.deref-contour-items.result.now in
    let contours = point_lists c.args.section.now in
    let i = c.loop-contour.contour-index in
    let before = c.loop-contour.bounds.items in
    let more = c.in_ok-push.ensures.items in
    let inv = c.loop-contour.invariant in
    let read : c.deref.result.now ≡ contour_at contours i =
    c.deref.ensures.value ∙ contour_read held i c.contour-item.result c.loop-contour-test.true c.contour-item.is
    ∙ ap (λ (cs : List Contour). contour_at (map points_of cs) i) c.deref-contour-items.ensures.value in
    let here : Encloses c.of.result (contour_at contours i) = subst (Encloses c.of.result) read c.of.ensures in
    record {
      one_each = omega (arith, ap length more, length-append before (c.of.result ∷ []), inv.one_each);
      enclosed = λ k d l.
          subst (λ (bs : List Bounds). Encloses (get_or bs k d) (contour_at contours k)) (sym more)
          (item_push (λ (j : ℕ) (b : Bounds). Encloses b (contour_at contours j)) before c.of.result i inv.one_each
          inv.enclosed here k d l);
    }

pub returns-clause-enclosed : goal.returns-clause-enclosed
returns-clause-enclosed c k d l = c.loop-contour.invariant.enclosed k d
    (omega (arith, l, c.loop-contour-test.false, ap length c.deref-contour-items.ensures.value))
