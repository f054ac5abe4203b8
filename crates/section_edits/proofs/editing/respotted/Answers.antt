use Rattle.std.proofs.Common.{◌≡◌, List, None, map, Some, sym, ap, ◌∙◌, arith}
use Rattle.fku_types.specs.declared.points.Point.{Point}
use Rattle.section_core.specs.Parts.{Spot, SectionParts}
use Rattle.section_core.specs.Views.{spot_of, contour_parts}
use Rattle.section_edits.specs.Contours.{contour_of}
use Rattle.section_edits.specs.Changes.{with_spots}
use Rattle.section_core.specs.Views.{spot_at}
use Rattle.section_edits.specs.Refusals.{first_of, own_tests}
use Rattle.section_edits.specs.Vertices.{vertex_edit, spots_after}
use Rattle.section_edits.proofs.Answering.{by_late, late}
use Rattle.section_edits.proofs.Lawful.{ready}
use Rattle.section_edits.proofs.Named.{whole_named, its_spots, own_vertex, changed_is, enough_after, in_range_after}
use Rattle.section_edits.proofs.editing.respotted.Goals as goal
use Rattle.section_edits.proofs.editing.respotted.Goals.{After-spots_after, After-deref-2}

-- the contour of the name
named : (c : After-spots_after)
    → contour_of c.args.sections.now.sections c.args.name.now ≡ Some (contour_parts c.in-Some.contour.now)
named c = ap (λ (ss : List SectionParts). contour_of ss c.args.name.now) (sym c.sections.ensures.parts)
    ∙ sym c.in-Some.ensures

-- the edit itself has no refusal
own : (c : After-spots_after)
    → first_of (own_tests c.args.sections.now (vertex_edit c.args.name.now c.args.index c.args.change.now)) ≡ None
own c = own_vertex c.args.sections.now c.args.name.now c.args.index c.args.change.now c.in-Some.contour.now
    c.len-count.result (named c) (omega (arith, c.len-count.ensures)) (sym c.is_out.ensures ∙ c.if-is_out.false)
    (sym c.lacks_vertex.ensures ∙ c.if-lacks_vertex.false) (sym c.leaves_few.ensures ∙ c.if-leaves_few.false)

-- the places after it
spots : (c : After-deref-2)
    → map spot_at c.deref-2.result.now
    ≡ spots_after c.args.change.now c.args.index (map spot_of c.in-Some.contour.now.points.items)
spots c = ap (map spot_at) c.deref-2.ensures.value ∙ c.in_ok-spots.ensures
    ∙ ap (λ (ps : List Point). spots_after c.args.change.now c.args.index (map spot_of ps)) c.deref.ensures.value

pub reshaped-requires-clause-enough : goal.reshaped-requires-clause-enough
reshaped-requires-clause-enough c =
    let at = goal.at.reshaped-requires-clause-enough c in
    let k = c.in-Some.contour.now in
    let whole = whole_named c.args.sections.now c.args.name.now (contour_parts k) (named at.After-spots_after)
    (ready c.args.sections.now c.sections.ensures.accepted) in
    enough_after k c.deref-2.result.now c.args.index c.len-count.result c.args.change.now whole
    (omega (arith, c.len-count.ensures)) (sym c.lacks_vertex.ensures ∙ c.if-lacks_vertex.false)
    (sym c.leaves_few.ensures ∙ c.if-leaves_few.false) (spots at.After-deref-2)

pub reshaped-requires-clause-in_range : goal.reshaped-requires-clause-in_range
reshaped-requires-clause-in_range c =
    let at = goal.at.reshaped-requires-clause-in_range c in
    let k = c.in-Some.contour.now in
    let whole = whole_named c.args.sections.now c.args.name.now (contour_parts k) (named at.After-spots_after)
    (ready c.args.sections.now c.sections.ensures.accepted) in
    in_range_after k c.deref-2.result.now c.args.index c.args.change.now whole
    (sym c.is_out.ensures ∙ c.if-is_out.false) (spots at.After-deref-2)

pub returns-clause-answers : goal.returns-clause-answers
returns-clause-answers c =
    let at = goal.at.returns-clause-answers c in
    let S = c.args.sections.now in
    let name = c.args.name.now in
    let i = c.args.index in
    let change = c.args.change.now in
    let made = ap (λ (qs : List Spot). with_spots name qs S)
    (spots at.After-deref-2
    ∙ ap (spots_after change i) (sym (its_spots S.sections name (contour_parts c.in-Some.contour.now)
    (named at.After-spots_after))))
    ∙ sym (changed_is S name i change) in
    by_late S (vertex_edit name i change) (with_spots name (map spot_at c.deref-2.result.now) S) c.reshaped.result
    (own at.After-spots_after) made c.reshaped.ensures

pub returns-in_err-spots-clause-memory : goal.returns-in_err-spots-clause-memory
returns-in_err-spots-clause-memory c =
    late c.from_residual.result c.args.sections.now (vertex_edit c.args.name.now c.args.index c.args.change.now)
    (own (goal.at.returns-in_err-spots-clause-memory c).After-spots_after)

pub returns-clause-memory : goal.returns-clause-memory
returns-clause-memory c =
    late c.reshaped.result c.args.sections.now (vertex_edit c.args.name.now c.args.index c.args.change.now)
    (own (goal.at.returns-clause-memory c).After-spots_after)
