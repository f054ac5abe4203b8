use Rattle.std.proofs.Common.{◌++◌, ◌∷◌, [], ◌∙◌, List, map, take_all, ap, ap₂, sym}
use Rattle.std.proofs.lemmas.List.{get_or_default}
use Rattle.fku_types.specs.declared.points.Point.{Point}
use Rattle.section_core.specs.Views.{placed}
use Rattle.section_pairs.proofs.Firsts.{front_more}
use Rattle.section_edits.proofs.changes.all_placed.Goals as goal

pub loop-spot-preserved : goal.loop-spot-preserved
loop-spot-preserved c =
    let spots = c.args.spots.now in
    let i = c.loop-spot.spot-index in
    let l = c.loop-spot-test.true in
    c.in_ok-push.ensures.items
    ∙ ap₂ (λ (ps : List Point) (p : Point). ps ++ p ∷ []) c.loop-spot.invariant c.placed.ensures
    ∙ sym (front_more (placed c.args.section.now.z) spots i _ l (get_or_default spots i _ _ l))

pub returns : goal.returns
returns c = c.loop-spot.invariant ∙ ap (map (placed c.args.section.now.z))
    (take_all c.loop-spot.spot-index c.args.spots.now c.loop-spot-test.false)
