use Rattle.std.proofs.Common.{sym, ◌∙◌, arith}
use Rattle.std.proofs.lemmas.Bool.{false≢true}
use Rattle.section_core.specs.Views.{link_parts}
use Rattle.section_pairs.proofs.Equals.{images_at}
use Rattle.section_pairs.proofs.unchanged.are_same_links.Goals as goal

pub returns-then-not-is_same_link-clause-all : goal.returns-then-not-is_same_link-clause-all
returns-then-not-is_same_link-clause-all c e =
    let one = c.args.one.now in
    let other = c.args.other.now in
    let i = c.loop-place.place in
    absurd (false≢true (sym c.if-not-is_same_link.true
    ∙ c.is_same_link.ensures.all (images_at link_parts one other i c.index-one-place.result
    c.index-other-place.result e c.loop-place-test.true
    (omega (arith, c.loop-place-test.true, c.if-one-other.false)) c.index-one-place.is c.index-other-place.is)))
