use Rattle.std.proofs.Common.{sym, ◌∙◌, arith}
use Rattle.std.proofs.lemmas.Bool.{false≢true}
use Rattle.section_core.specs.Flat.{contour_data}
use Rattle.section_pairs.proofs.Equals.{images_at}
use Rattle.section_pairs.proofs.unchanged.are_same_contours.Goals as goal

pub returns-then-not-is_same_contour-clause-all : goal.returns-then-not-is_same_contour-clause-all
returns-then-not-is_same_contour-clause-all c e =
    let one = c.args.one.now in
    let other = c.args.other.now in
    let i = c.loop-place.place in
    absurd (false≢true (sym c.if-not-is_same_contour.true
    ∙ c.is_same_contour.ensures.all (images_at contour_data one other i c.index-one-place.result
    c.index-other-place.result e c.loop-place-test.true
    (omega (arith, c.loop-place-test.true, c.if-one-other.false)) c.index-one-place.is c.index-other-place.is)))
