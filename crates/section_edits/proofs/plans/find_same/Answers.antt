use Rattle.std.proofs.Common.{ap, sym, ◌∙◌}
use Rattle.section_pairs.specs.declared.gap_pairs.GapPair.{GapPair}
use Rattle.section_edits.specs.Fresh.{is_same_strip}
use Rattle.section_edits.proofs.Planning.{same_here}
use Rattle.section_edits.proofs.plans.find_same.Goals as goal

pub returns-then-is_same-clause-found : goal.returns-then-is_same-clause-found
returns-then-is_same-clause-found c =
    same_here c.args.kept.now c.args.hint c.index-kept-hint.result c.args.pair.now c.if-hint-kept.true
    c.index-kept-hint.is (ap (λ (x : GapPair). is_same_strip c.args.pair.now x.pair) c.index-kept-hint.is
    ∙ sym c.is_same.ensures ∙ c.if-is_same.true)

pub returns-then-is_same-2-clause-found : goal.returns-then-is_same-2-clause-found
returns-then-is_same-2-clause-found c =
    same_here c.args.kept.now c.loop-place.place c.index-kept-place.result c.args.pair.now c.loop-place-test.true
    c.index-kept-place.is (ap (λ (x : GapPair). is_same_strip c.args.pair.now x.pair) c.index-kept-place.is
    ∙ sym c.is_same-in-loop-place.ensures ∙ c.if-is_same-2.true)
