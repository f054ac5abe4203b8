use Rattle.std.proofs.Common.{◌≡◌, ℕ, ◌+◌, ◌<◌, ◌≤◌, length, All, Vec, arith, sym, subst, ◌∙◌}
use Rattle.std.specs.Global.{Global}
use Rattle.fku_types.specs.declared.limits.TheConstants.{MAX_VERTICES}
use Rattle.plane_geom.specs.RingViews.{ring_views, IsContour}
use Rattle.plane_geom.specs.declared.ring.Ring.{Ring}
use Rattle.correspondence.specs.Contours.{point_lists}
use Rattle.correspondence.specs.Nesting.{oriented}
use Rattle.section_pairs.specs.Rings.{rings_at, AreSectionRings}
use Rattle.section_pairs.proofs.SectionRings.{section_vertices, first_is, few_ids, kept_outlines, limits_kept, rings_are, count_is}
use Rattle.fku_types.proofs.AnswerLaws.{ok_then}
use Rattle.section_pairs.proofs.rings.section_rings.Goals as goal

pub oriented-requires-clause-ids : goal.oriented-requires-clause-ids
oriented-requires-clause-ids c =
    let S = c.args.sections.now in
    let ss = c.sections.result.now in
    let s = c.index-sections-place.result in
    let there : c.args.place < length ss =
    omega (arith, c.requires.there, count_is ss S.sections c.sections.ensures.«data») in
    subst (λ (n : ℕ). n + section_vertices s ≤ MAX_VERTICES)
    (first_is ss S c.args.place c.sections.ensures.«data» ∙ sym c.requires.first)
    (few_ids ss c.args.place s c.sections.ensures.kept there c.index-sections-place.is)

pub returns-clause-rings : goal.returns-clause-rings
returns-clause-rings c =
    let S = c.args.sections.now in
    let ss = c.sections.result.now in
    let s = c.index-sections-place.result in
    let there : c.args.place < length ss =
    omega (arith, c.requires.there, count_is ss S.sections c.sections.ensures.«data») in
    let first = c.requires.first ∙ sym (first_is ss S c.args.place c.sections.ensures.«data») in
    ok_then c.oriented.result (λ (v : Vec Ring Global). ring_views v.items ≡ oriented c.args.first_id (point_lists s))
    (λ (v : Vec Ring Global). All IsContour v.items)
    (λ (v : Vec Ring Global). ring_views v.items ≡ rings_at S c.args.place)
    c.oriented.ensures.rings c.oriented.ensures.contours
    (λ v e k. rings_are ss S c.args.place c.args.first_id s v.items c.sections.ensures.«data» there
    c.index-sections-place.is first e)

pub returns-clause-limits : goal.returns-clause-limits
returns-clause-limits c =
    let S = c.args.sections.now in
    let ss = c.sections.result.now in
    let s = c.index-sections-place.result in
    let there : c.args.place < length ss =
    omega (arith, c.requires.there, count_is ss S.sections c.sections.ensures.«data») in
    ok_then c.oriented.result (λ (v : Vec Ring Global). ring_views v.items ≡ oriented c.args.first_id (point_lists s))
    (λ (v : Vec Ring Global). All IsContour v.items) (λ (v : Vec Ring Global). AreSectionRings v.items)
    c.oriented.ensures.rings c.oriented.ensures.contours
    (λ v e k. limits_kept c.args.first_id s v.items
    (kept_outlines ss c.args.place s c.sections.ensures.kept there c.index-sections-place.is) e k)
