use Rattle.std.proofs.Common.{◌≡◌, ◌∷◌, [], List, Some, None, sym, ap, ◌∙◌, cond, Bool}
use Rattle.std.specs.List.{find}
use Rattle.std.proofs.lemmas.List.Concat.{flat_map_single}
use Rattle.section_core.specs.declared.parts.Contour.{Contour}
use Rattle.section_core.specs.Parts.{ContourParts}
use Rattle.section_core.specs.Views.{contour_parts}
use Rattle.section_edits.specs.Contours.{has_name}
use Rattle.section_edits.proofs.Finds.{find_here, find_more, find_all}
use Rattle.section_edits.proofs.contours.contour_in.Goals as goal

pub returns-then-has_name : goal.returns-then-has_name
returns-then-has_name c =
    let p = has_name c.args.name.now in
    let x = c.contour-item.result in
    let g : Contour → List ContourParts = λ y. contour_parts y ∷ [] in
    let here : find p (g x) ≡ Some (contour_parts x) =
    ap (λ (b : Bool). cond b (Some (contour_parts x)) None) (sym c.has_name.ensures ∙ c.if-has_name.true) in
    sym (ap (find p) (sym (flat_map_single contour_parts c.args.contours.now))
    ∙ find_here p g c.args.contours.now c.loop-contour.contour-index x (contour_parts x) c.loop-contour-test.true
    c.contour-item.is c.loop-contour.invariant here)

pub loop-contour-preserved : goal.loop-contour-preserved
loop-contour-preserved c =
    let p = has_name c.args.name.now in
    let x = c.contour-item.result in
    let g : Contour → List ContourParts = λ y. contour_parts y ∷ [] in
    let here : find p (g x) ≡ None = ap (λ (b : Bool). cond b (Some (contour_parts x)) None)
    (sym c.has_name.ensures ∙ c.if-has_name.false) in
    find_more p g c.args.contours.now c.loop-contour.contour-index x c.loop-contour-test.true c.contour-item.is
    c.loop-contour.invariant here

pub returns : goal.returns
returns c =
    let p = has_name c.args.name.now in
    let g : Contour → List ContourParts = λ y. contour_parts y ∷ [] in
    sym (ap (find p) (sym (flat_map_single contour_parts c.args.contours.now))
    ∙ find_all p g c.args.contours.now c.loop-contour.contour-index c.loop-contour-test.false
    c.loop-contour.invariant)
