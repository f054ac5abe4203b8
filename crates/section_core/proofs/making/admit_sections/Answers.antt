use Rattle.std.proofs.Common.{◌≡◌, ◌+◌, ◌∷◌, List, drop, subst}
use Rattle.std.specs.List.{flat_map}
use Rattle.section_core.specs.declared.parts.Section.{Section}
use Rattle.section_core.specs.Made.{section_pieces, AreNamed}
use Rattle.section_core.proofs.Walking.{GoesOn, goes_more, goes_err, all_next}
use Rattle.fku_types.proofs.ListLaws.{drop_next}
use Rattle.section_core.proofs.making.admit_sections.Goals as goal

pub returns-in-Err-clause-walks : goal.returns-in-Err-clause-walks
returns-in-Err-clause-walks c f t =
    let xs = c.args.sections.now in
    let i = c.loop-section.section-index in
    let item = c.section-item.result in
    let next : drop i xs ≡ item ∷ drop (i + 1) xs = drop_next xs i item c.loop-section-test.true c.section-item.is in
    let on = subst (λ (ys : List Section).
    GoesOn f (flat_map section_pieces xs) c.loop-section.tally (flat_map section_pieces ys)) next
    (c.loop-section.invariant.goes f t) in
    goes_err f (flat_map section_pieces xs) c.loop-section.tally c.admit_section.new.tally c.admit_section.new.tally
    (section_pieces item) (flat_map section_pieces (drop (i + 1) xs)) c.in-Err.fault on
    (c.in-Err.ensures.walks on.facts on.tallies)

pub loop-section-preserved : goal.loop-section-preserved
loop-section-preserved c =
    let xs = c.args.sections.now in
    let i = c.loop-section.section-index in
    let item = c.section-item.result in
    let next : drop i xs ≡ item ∷ drop (i + 1) xs = drop_next xs i item c.loop-section-test.true c.section-item.is in
    record {
      goes = λ f t.
          let on = subst (λ (ys : List Section).
          GoesOn f (flat_map section_pieces xs) c.loop-section.tally (flat_map section_pieces ys)) next
          (c.loop-section.invariant.goes f t) in
          goes_more f (flat_map section_pieces xs) c.loop-section.tally c.admit_section.new.tally (section_pieces item)
          (flat_map section_pieces (drop (i + 1) xs)) c.in-Ok.field-0 on
          (c.in-Ok.ensures.walks on.facts on.tallies);
      named = all_next AreNamed xs i item (drop (i + 1) xs) next c.loop-section.invariant.named c.in-Ok.ensures.named;
    }
