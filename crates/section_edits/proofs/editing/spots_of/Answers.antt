use Rattle.std.proofs.Common.{◌++◌, ◌∷◌, [], ◌∙◌, List, map, take_all, ap, ap₂, sym}
use Rattle.std.proofs.lemmas.List.{get_or_default, map-append}
use Rattle.section_core.specs.Parts.{Spot}
use Rattle.section_core.specs.Views.{spot_at, spot_of}
use Rattle.section_pairs.proofs.Firsts.{front_more}
use Rattle.section_edits.proofs.editing.spots_of.Goals as goal

pub loop-point-preserved : goal.loop-point-preserved
loop-point-preserved c =
    let points = c.args.points.now in
    let i = c.loop-point.point-index in
    let l = c.loop-point-test.true in
    ap (map spot_at) c.in_ok-push.ensures.items ∙ map-append spot_at c.loop-point.spots.items (c.spot_of.result ∷ [])
    ∙ ap₂ (λ (ss : List Spot) (s : Spot). ss ++ s ∷ []) c.loop-point.invariant c.spot_of.ensures
    ∙ sym (front_more spot_of points i _ l (get_or_default points i _ _ l))

pub returns : goal.returns
returns c = c.loop-point.invariant ∙ ap (map spot_of)
    (take_all c.loop-point.point-index c.args.points.now c.loop-point-test.false)
