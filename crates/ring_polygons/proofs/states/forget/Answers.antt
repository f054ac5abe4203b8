use Rattle.std.proofs.Common.{arith, ◌≡◌, ℕ, List, length, map, set, remove, ap, subst, sym, ◌∙◌}
use Rattle.ring_polygons.specs.declared.states.EarState.{EarState}
use Rattle.ring_polygons.specs.declared.states.EarState.TheVariants.{Open}
use Rattle.ring_polygons.specs.Ears.{place_before}
use Rattle.ring_polygons.specs.States.{AreTrue, moved_state}
use Rattle.ring_polygons.proofs.StateLaws.{after_cut, cut_true}
use Rattle.ring_polygons.proofs.states.forget.Goals as goal

pub returns : goal.returns
returns c w s ring more h =
    let p : ℕ = c.args.place in
    let old : List EarState = c.args.states.now in
    let b : ℕ = c.before_place-before.result in
    let a : ℕ = c.after_place-after.result in
    let e : set (set c.move_each.new.states b (Open 0)) a (Open 0) ≡ after_cut old p =
    ap (λ (l : List EarState). set (set l b (Open 0)) a (Open 0)) c.move_each.ensures
    ∙ ap (λ (i : ℕ). set (set (map (moved_state p) old) i (Open 0)) a (Open 0)) c.before_place-before.ensures.value
    ∙ ap (λ (i : ℕ). set (set (map (moved_state p) old) (place_before (length old) p) (Open 0)) i (Open 0))
    c.after_place-after.ensures.value in
    subst (λ (l : List EarState). AreTrue w s (remove ring p) (remove l p)) (sym e)
    (cut_true w s ring old p (omega (arith, c.requires, h.one_each)) more h)
