use Rattle.std.proofs.Common.{◌≡◌, ℕ, ◌<◌, ◌≤◌, w32, true, false, List, length, map, Some, None, refl, sym, ap, ◌∙◌, arith}
use Rattle.std.specs.Prelude.{not}
use Rattle.std.specs.Ordering.{int_eq}
use Rattle.std.specs.List.{list_any}
use Rattle.std.proofs.lemmas.Bool.{cond-true, cond-false, lt-ltb, le-ltb}
use Rattle.std.proofs.lemmas.Int.{to_z-of_z}
use Rattle.section_core.specs.declared.parts.Section.{Section}
use Rattle.section_core.specs.Parts.{SectionParts}
use Rattle.section_core.specs.Views.{contour_parts}
use Rattle.section_edits.specs.declared.edit.Edit.TheVariants.{AddContour}
use Rattle.section_edits.specs.declared.edit.EditFault.TheVariants.{NoSection, TooFew, NameTwice}
use Rattle.section_edits.specs.Contours.{contour_of, has_section_at}
use Rattle.section_edits.specs.Changes.{contour_with, with_new_contour, changed}
use Rattle.section_core.specs.Views.{spot_at}
use Rattle.section_edits.specs.Refusals.{first_of, own_tests, is_far, IsRefusal}
use Rattle.section_edits.proofs.Answering.{told, by_own, by_late, late}
use Rattle.section_edits.proofs.ChangedPoints.{all_near}
use Rattle.section_edits.proofs.Named.{there, not_there, section_test}
use Rattle.section_edits.proofs.editing.added.Goals as goal
use Rattle.section_edits.proofs.editing.added.Goals.{After-has_section, In_default}

-- what the tests of the code say of the edit
far : (c : After-has_section) → list_any is_far c.args.points.now ≡ false
far c = sym c.any_far.ensures ∙ c.if-any_far.false

section : (c : After-has_section) → has_section_at c.args.sections.now.sections c.args.z ≡ c.has_section.result
section c =
    let at_z : c.has_section.result ≡ list_any (λ (s : Section). int_eq c.args.z s.z) c.sections.result.now =
    rw (to_z-of_z w32 c.args.z c.ranges.z) at c.has_section.ensures in
    section_test c.sections.result.now c.args.sections.now.sections c.args.z c.has_section.result
    c.sections.ensures.parts at_z

-- the edit itself has no refusal
own : (c : In_default)
    → list_any is_far c.args.points.now ≡ false
    → has_section_at c.args.sections.now.sections c.args.z ≡ true
    → first_of (own_tests c.args.sections.now (AddContour c.args.z c.args.name.now c.args.points.now)) ≡ None
own c far-off there-is =
    let enough : 3 ≤ length c.args.points.now = omega (arith, c.if-points-lt3.false) in
    let free : contour_of c.args.sections.now.sections c.args.name.now ≡ None =
    ap (λ (ss : List SectionParts). contour_of ss c.args.name.now) (sym c.sections-2.ensures.parts)
    ∙ sym c.in_default.ensures in
    cond-false _ _ _ far-off ∙ cond-false _ _ _ (ap not there-is) ∙ cond-false _ _ _ (le-ltb _ _ enough)
    ∙ cond-false _ _ _ (not_there c.args.sections.now.sections c.args.name.now free)

pub returns-then-not-has_section-clause-answers : goal.returns-then-not-has_section-clause-answers
returns-then-not-has_section-clause-answers c =
    let at = (goal.at.returns-then-not-has_section-clause-answers c).After-has_section in
    let S = c.args.sections.now in
    let z = c.args.z in
    let e = AddContour z c.args.name.now c.args.points.now in
    rw (to_z-of_z w32 z c.ranges.z) (told (IsRefusal S e) (NoSection z) (λ s. s ≡ changed S e)
    (by_own S e (NoSection z) (cond-false _ _ _ (far at)
    ∙ cond-true _ _ _ (ap not (section at ∙ c.if-not-has_section.true)))))

pub returns-then-points-lt3-clause-answers : goal.returns-then-points-lt3-clause-answers
returns-then-points-lt3-clause-answers c =
    let at = (goal.at.returns-then-points-lt3-clause-answers c).After-has_section in
    let S = c.args.sections.now in
    let e = AddContour c.args.z c.args.name.now c.args.points.now in
    let few : length c.args.points.now < 3 = omega (arith, c.if-points-lt3.true) in
    told (IsRefusal S e) (TooFew c.copy-name.result) (λ s. s ≡ changed S e)
    (by_own S e (TooFew c.copy-name.result)
    (cond-false _ _ _ (far at) ∙ cond-false _ _ _ (ap not (section at ∙ c.if-not-has_section.false))
    ∙ cond-true _ _ _ (lt-ltb _ _ few) ∙ ap (λ (n : List ℕ). Some (TooFew n)) (sym c.copy-name.ensures)))

pub returns-in-Some-clause-answers : goal.returns-in-Some-clause-answers
returns-in-Some-clause-answers c =
    let at = (goal.at.returns-in-Some-clause-answers c).After-has_section in
    let S = c.args.sections.now in
    let name = c.args.name.now in
    let e = AddContour c.args.z name c.args.points.now in
    let enough : 3 ≤ length c.args.points.now = omega (arith, c.if-points-lt3.false) in
    let named : contour_of S.sections name ≡ Some (contour_parts c.in-Some.field-0.now) =
    ap (λ (ss : List SectionParts). contour_of ss name) (sym c.sections-2.ensures.parts) ∙ sym c.in-Some.ensures in
    told (IsRefusal S e) (NameTwice c.copy-name-in-Some.result) (λ s. s ≡ changed S e)
    (by_own S e (NameTwice c.copy-name-in-Some.result)
    (cond-false _ _ _ (far at) ∙ cond-false _ _ _ (ap not (section at ∙ c.if-not-has_section.false))
    ∙ cond-false _ _ _ (le-ltb _ _ enough)
    ∙ cond-true _ _ _ (there S.sections name (contour_parts c.in-Some.field-0.now) named)
    ∙ ap (λ (n : List ℕ). Some (NameTwice n)) (sym c.copy-name-in-Some.ensures)))

pub grown-requires-clause-in_range : goal.grown-requires-clause-in_range
grown-requires-clause-in_range c =
    all_near c.args.points.now (far (goal.at.grown-requires-clause-in_range c).After-has_section)

pub returns-clause-answers : goal.returns-clause-answers
returns-clause-answers c =
    let at = goal.at.returns-clause-answers c in
    let h = at.After-has_section in
    let S = c.args.sections.now in
    let z = c.args.z in
    let name = c.args.name.now in
    let points = c.args.points.now in
    by_late S (AddContour z name points) (with_new_contour z (contour_with name (map spot_at points)) S) c.grown.result
    (own at.In_default (far h) (section h ∙ c.if-not-has_section.false)) refl
    (rw (to_z-of_z w32 z c.ranges.z) at c.grown.ensures)

pub returns-clause-memory : goal.returns-clause-memory
returns-clause-memory c =
    let at = goal.at.returns-clause-memory c in
    let h = at.After-has_section in
    late c.grown.result c.args.sections.now (AddContour c.args.z c.args.name.now c.args.points.now)
    (own at.In_default (far h) (section h ∙ c.if-not-has_section.false))
