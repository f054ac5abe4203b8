use Rattle.std.proofs.Common.{◌≡◌, w32, map, ap, ◌∙◌, arith}
use Rattle.std.proofs.lemmas.List.{length-map}
use Rattle.std.proofs.lemmas.Int.{to_z-of_z}
use Rattle.section_core.specs.Parts.{Parts}
use Rattle.section_core.specs.Views.{section_parts, link_parts}
use Rattle.section_core.proofs.Placed.{flat_of}
use Rattle.section_edits.specs.Changes.{added_in, contour_with, with_new_contour}
use Rattle.section_core.specs.Views.{spot_at}
use Rattle.section_edits.proofs.Lawful.{ready}
use Rattle.section_edits.proofs.AddedContours.{ready_added}
use Rattle.section_edits.proofs.Remade.{made_ready, made_answers}
use Rattle.section_edits.proofs.editing.grown.Goals as goal

pub remade-requires-clause-ready : goal.remade-requires-clause-ready
remade-requires-clause-ready c =
    let S = c.args.sections.now in
    let name = c.args.name.now in
    let T : Parts = with_new_contour c.args.z (contour_with c.args.name.now (map spot_at c.args.spots.now))
    c.args.sections.now in
    let height = rw (to_z-of_z w32 c.args.z c.ranges.z) at c.in_ok-changed.ensures.parts in
    let parts : map section_parts c.in_ok-changed.changed.items ≡ T.sections = height
    ∙ ap (map (added_in c.args.z (contour_with name (map spot_at c.args.spots.now)))) c.sections.ensures.parts in
    let links : map link_parts c.in_ok-links.links.items ≡ T.links = c.in_ok-links.ensures ∙ c.links.ensures.parts in
    made_ready T c.in_ok-changed.changed.items c.in_ok-links.links.items parts links
    (ready_added S c.args.z name (map spot_at c.args.spots.now) (ready S c.sections.ensures.accepted)
    c.requires.name c.requires.new (omega (arith, c.requires.enough, length-map c.args.spots.now spot_at))
    c.requires.in_range)

pub remade-requires-clause-flat : goal.remade-requires-clause-flat
remade-requires-clause-flat c = flat_of c.in_ok-changed.changed.items c.in_ok-changed.ensures.level

pub returns : goal.returns
returns c =
    let S = c.args.sections.now in
    let name = c.args.name.now in
    let T : Parts = with_new_contour c.args.z (contour_with c.args.name.now (map spot_at c.args.spots.now))
    c.args.sections.now in
    let height = rw (to_z-of_z w32 c.args.z c.ranges.z) at c.in_ok-changed.ensures.parts in
    let parts : map section_parts c.in_ok-changed.changed.items ≡ T.sections = height
    ∙ ap (map (added_in c.args.z (contour_with name (map spot_at c.args.spots.now)))) c.sections.ensures.parts in
    let links : map link_parts c.in_ok-links.links.items ≡ T.links = c.in_ok-links.ensures ∙ c.links.ensures.parts in
    made_answers T c.in_ok-changed.changed.items c.in_ok-links.links.items c.remade.result parts links c.remade.ensures
