use Rattle.std.proofs.Common.{◌≡◌, List, None, refl, sym, map, ap, ◌∙◌}
use Rattle.std.specs.Prelude.{filter, not}
use Rattle.section_core.specs.Parts.{SectionParts, LinkParts}
use Rattle.section_core.specs.Views.{contour_parts, section_parts, link_parts}
use Rattle.section_core.proofs.Placed.{flat_of}
use Rattle.section_edits.specs.Changes.{dropped_in, names_it, without}
use Rattle.section_edits.proofs.Lawful.{ready}
use Rattle.section_edits.proofs.DroppedContours.{ready_dropped}
use Rattle.section_edits.specs.declared.edit.Edit.TheVariants.{RemoveContour}
use Rattle.section_edits.proofs.Answering.{by_late, late}
use Rattle.section_edits.specs.Contours.{contour_of}
use Rattle.section_edits.specs.Refusals.{first_of, own_tests}
use Rattle.section_edits.proofs.Named.{own_drop}
use Rattle.section_edits.proofs.Remade.{made_ready, made_answers}
use Rattle.section_edits.proofs.editing.dropped.Goals as goal
use Rattle.section_edits.proofs.editing.dropped.Goals.{In-Some, In_ok-links}

-- the edit itself has no refusal
own : (c : In-Some) → first_of (own_tests c.args.sections.now (RemoveContour c.args.name.now)) ≡ None
own c = own_drop c.args.sections.now c.args.name.now (contour_parts c.in-Some.field-0.now)
    (ap (λ (ss : List SectionParts). contour_of ss c.args.name.now) (sym c.sections.ensures.parts)
    ∙ sym c.in-Some.ensures)

-- the parts that are left
parts : (c : In_ok-links)
    → map section_parts c.in_ok-changed.changed.items ≡ (without c.args.name.now c.args.sections.now).sections
parts c = c.in_ok-changed.ensures.parts ∙ ap (map (dropped_in c.args.name.now)) c.sections-2.ensures.parts

links : (c : In_ok-links)
    → map link_parts c.in_ok-links.links.items ≡ (without c.args.name.now c.args.sections.now).links
links c = c.in_ok-links.ensures
    ∙ ap (filter (λ (l : LinkParts). not (names_it c.args.name.now l))) c.links.ensures.parts

pub remade-requires-clause-ready : goal.remade-requires-clause-ready
remade-requires-clause-ready c =
    let at = goal.at.remade-requires-clause-ready c in
    let S = c.args.sections.now in
    made_ready (without c.args.name.now S) c.in_ok-changed.changed.items c.in_ok-links.links.items
    (parts at.In_ok-links) (links at.In_ok-links)
    (ready_dropped S c.args.name.now (ready S c.sections-2.ensures.accepted))

pub remade-requires-clause-flat : goal.remade-requires-clause-flat
remade-requires-clause-flat c = flat_of c.in_ok-changed.changed.items c.in_ok-changed.ensures.level

pub returns-clause-answers : goal.returns-clause-answers
returns-clause-answers c =
    let at = goal.at.returns-clause-answers c in
    let T = without c.args.name.now c.args.sections.now in
    by_late c.args.sections.now (RemoveContour c.args.name.now) T c.remade.result (own at.In-Some) refl
    (made_answers T c.in_ok-changed.changed.items c.in_ok-links.links.items c.remade.result (parts at.In_ok-links)
    (links at.In_ok-links) c.remade.ensures)

pub returns-in_err-changed-clause-memory : goal.returns-in_err-changed-clause-memory
returns-in_err-changed-clause-memory c =
    late c.from_residual.result c.args.sections.now (RemoveContour c.args.name.now)
    (own (goal.at.returns-in_err-changed-clause-memory c).In-Some)

pub returns-in_err-links-clause-memory : goal.returns-in_err-links-clause-memory
returns-in_err-links-clause-memory c =
    late c.from_residual-in_err-links.result c.args.sections.now (RemoveContour c.args.name.now)
    (own (goal.at.returns-in_err-links-clause-memory c).In-Some)

pub returns-clause-memory : goal.returns-clause-memory
returns-clause-memory c = late c.remade.result c.args.sections.now (RemoveContour c.args.name.now)
    (own (goal.at.returns-clause-memory c).In-Some)
