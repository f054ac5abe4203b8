use Rattle.std.proofs.Common.{◌++◌, ℕ, List, ap, ap₂, ◌∙◌, arith, Err, map}
use Rattle.std.proofs.lemmas.Result.{err_from_is_err_and}
use Rattle.std.proofs.lemmas.List.Elements.{All-append}
use Rattle.fku_types.specs.declared.fault.Fault.{Fault}
use Rattle.plane_geom.specs.RingViews.{ring_views}
use Rattle.correspondence.specs.Contours.{point_lists}
use Rattle.ring_polygons.specs.declared.faces.Face.TheVariants.{Below, Above}
use Rattle.section_pairs.specs.Pairs.{pair_parts, IsShort}
use Rattle.section_pairs.specs.SectionFaults.{IsFirstFault, OrNoMemory}
use Rattle.section_pairs.proofs.Sides.{err_told}
use Rattle.ring_caps.specs.RingSurfaces.{face_sizes, both_sizes, HasLongGroup}
use Rattle.ring_caps.proofs.CapLoops.{long_below, long_above}
use Rattle.ring_caps.proofs.caps.section_caps.Goals as goal

pub face_caps-requires-clause-joined : goal.face_caps-requires-clause-joined
face_caps-requires-clause-joined c = c.requires.joined Below

pub face_caps-requires-2-clause-joined : goal.face_caps-requires-2-clause-joined
face_caps-requires-2-clause-joined c = c.requires.joined Above

pub returns-in_err-list-clause-fault : goal.returns-in_err-list-clause-fault
returns-in_err-list-clause-fault c =
    let s = c.args.place in
    let outlines = point_lists c.args.section.now in
    let rings = ring_views c.args.rings.now in
    let ps = map pair_parts c.args.pairs.now in
    let fault = c.in_err-list.field-0.0 in
    let exit = err_from_is_err_and c.from_residual-in_err-list.result c.from_residual-in_err-list.ensures.1 in
    err_told c.from_residual-in_err-list.result fault
    (OrNoMemory (IsFirstFault IsShort HasLongGroup (both_sizes s outlines rings ps)))
    (exit.1 ∙ ap (λ (e : Fault). Err e) exit.2)
    (long_below (face_sizes Below s outlines rings ps) (face_sizes Above s outlines rings ps) fault
    c.in_err-list.ensures.fault)

pub returns-in_err-tops-clause-fault : goal.returns-in_err-tops-clause-fault
returns-in_err-tops-clause-fault c =
    let s = c.args.place in
    let outlines = point_lists c.args.section.now in
    let rings = ring_views c.args.rings.now in
    let ps = map pair_parts c.args.pairs.now in
    let fault = c.in_err-tops.field-0.0 in
    let exit = err_from_is_err_and c.from_residual-in_err-tops.result c.from_residual-in_err-tops.ensures.1 in
    err_told c.from_residual-in_err-tops.result fault
    (OrNoMemory (IsFirstFault IsShort HasLongGroup (both_sizes s outlines rings ps)))
    (exit.1 ∙ ap (λ (e : Fault). Err e) exit.2)
    (long_above (face_sizes Below s outlines rings ps) (face_sizes Above s outlines rings ps) fault
    c.in_ok-list.ensures.short c.in_err-tops.ensures.fault)

pub append-requires : goal.append-requires
append-requires c = omega (arith, c.in_ok-list.ensures.small, c.in_ok-tops.ensures.small)

pub returns-clause-triangles : goal.returns-clause-triangles
returns-clause-triangles c = c.in_ok-append.ensures.triangles
    ∙ ap₂ (λ (b t : List (List ℕ)). b ++ t) c.in_ok-list.ensures.caps.triangles c.in_ok-tops.ensures.caps.triangles

pub returns-clause-folded : goal.returns-clause-folded
returns-clause-folded c = omega (
  arith,
  c.in_ok-append.ensures.folded,
  c.in_ok-list.ensures.caps.folded,
  c.in_ok-tops.ensures.caps.folded,
)

pub returns-clause-short : goal.returns-clause-short
returns-clause-short c =
    let s = c.args.place in
    let outlines = point_lists c.args.section.now in
    let rings = ring_views c.args.rings.now in
    let ps = map pair_parts c.args.pairs.now in
    All-append IsShort (face_sizes Below s outlines rings ps) (face_sizes Above s outlines rings ps)
    c.in_ok-list.ensures.short c.in_ok-tops.ensures.short
