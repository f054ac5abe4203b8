use Rattle.std.proofs.Common.{◌≡◌, ◌∙◌, ℕ, length, get_or, subst, sym, ap, arith}
use borrow.Author.Count.{below_more}
use Rattle.std.proofs.lemmas.List.{get_or_default}
use Rattle.std.proofs.lemmas.List.Sums.{sum_by_more}
use Rattle.section_core.specs.declared.parts.Contour.{Contour}
use Rattle.correspondence.specs.Contours.{IsOutline, points_of}
use Rattle.section_call_tests.proofs.contour_tests.are_outlines.Goals as goal

pub loop-contour-preserved : goal.loop-contour-preserved
loop-contour-preserved c =
    let cs = c.args.contours.now in
    let i = c.loop-contour.contour-index in
    let item = c.contour-item.result in
    let outline : IsOutline (points_of item) =
    subst IsOutline c.deref.ensures.value (c.is_outline.ensures c.if-not-is_outline.false) in
    let more = sum_by_more (λ (x : Contour). length (points_of x)) cs i item c.loop-contour-test.true in
    let size : c.len-vertices.result ≡ length (points_of item) = c.len-vertices.ensures ∙ sym c.deref.ensures.len
    ∙ ap length c.deref.ensures.value in
    record {
      each = λ k d l. below_more (λ (k : ℕ). (d : Contour) → IsOutline (points_of (get_or cs k d))) i
          (λ k l d. c.loop-contour.invariant.each k d l)
          (λ d. subst (λ (x : Contour). IsOutline (points_of x))
          (c.contour-item.is ∙ get_or_default cs i item d c.loop-contour-test.true) outline) k l d;
      sum = omega (
        arith,
        more,
        size,
        c.loop-contour.invariant.sum,
        ap (λ (x : Contour). length (points_of x)) c.contour-item.is,
      );
      few = omega arith;
    }
