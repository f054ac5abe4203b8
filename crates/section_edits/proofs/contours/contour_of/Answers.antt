use Rattle.std.proofs.Common.{◌≡◌, map, List, Bool, Some, None, sym, ap, ◌∙◌}
use Rattle.std.specs.List.{find, flat_map}
use Rattle.std.proofs.lemmas.List.Folds.{flat_map-map}
use Rattle.section_core.specs.declared.parts.Contour.{Contour}
use Rattle.section_core.specs.declared.parts.Section.{Section}
use Rattle.section_core.specs.Parts.{ContourParts, SectionParts}
use Rattle.section_core.specs.Views.{contour_parts, section_parts}
use Rattle.section_edits.specs.Contours.{has_name}
use Rattle.section_edits.proofs.Finds.{find_here, find_more, find_all}
use Rattle.section_edits.proofs.contours.contour_of.Goals as goal

abbrev held : Section → List ContourParts
held s = map contour_parts s.contours.items

as_held : (p : ContourParts → Bool) (ss : List Section)
    → find p (flat_map (λ (s : SectionParts). s.contours) (map section_parts ss)) ≡ find p (flat_map held ss)
as_held p ss = ap (find p) (flat_map-map (λ (s : SectionParts). s.contours) section_parts ss)

pub returns-in-Some : goal.returns-in-Some
returns-in-Some c =
    let p = has_name c.args.name.now in
    let x = c.section-item.result in
    let here : find p (held x) ≡ Some (contour_parts c.in-Some.contour.now) =
    ap (λ (cs : List Contour). find p (map contour_parts cs)) (sym c.deref.ensures.value) ∙ sym c.in-Some.ensures in
    sym (as_held p c.args.sections.now
    ∙ find_here p held c.args.sections.now c.loop-section.section-index x (contour_parts c.in-Some.contour.now)
    c.loop-section-test.true c.section-item.is c.loop-section.invariant here)

pub loop-section-preserved : goal.loop-section-preserved
loop-section-preserved c =
    let p = has_name c.args.name.now in
    let x = c.section-item.result in
    let here : find p (held x) ≡ None =
    ap (λ (cs : List Contour). find p (map contour_parts cs)) (sym c.deref.ensures.value)
    ∙ sym c.in_default.ensures in
    find_more p held c.args.sections.now c.loop-section.section-index x c.loop-section-test.true c.section-item.is
    c.loop-section.invariant here

pub returns : goal.returns
returns c =
    let p = has_name c.args.name.now in
    sym (as_held p c.args.sections.now
    ∙ find_all p held c.args.sections.now c.loop-section.section-index c.loop-section-test.false
    c.loop-section.invariant)
