use Rattle.std.proofs.Common.{arith, ◌≡◌, ◌<◌, ◌+◌, ◌++◌, ℕ, List, length, get_or, set, take, drop, map, ap, ◌∙◌}
use Rattle.std.proofs.lemmas.List.{get_or_default}
use Rattle.std.proofs.lemmas.List.Edits.{map_over_more}
use Rattle.ring_polygons.specs.declared.states.EarState.{EarState}
use Rattle.ring_polygons.specs.States.{moved_state}
use Rattle.ring_polygons.proofs.states.move_each.Goals as goal

moved_more : (p : ℕ) (xs ys : List EarState) (i : ℕ) (d x : EarState) → i < length xs → length ys ≡ length xs
    → ys ≡ map (moved_state p) (take i xs) ++ drop i xs → x ≡ moved_state p (get_or ys i d)
    → set ys i x ≡ map (moved_state p) (take (i + 1) xs) ++ drop (i + 1) xs
moved_more p xs ys i d x l n e h = ap (set ys i) h
    ∙ map_over_more (moved_state p) xs ys i (get_or ys i d) l e
    (get_or_default ys i d (get_or ys i d) (omega (arith, n)))

pub loop-state-preserved : goal.loop-state-preserved
loop-state-preserved c = moved_more c.args.place c.args.states.now c.loop-state.states c.loop-state.state-index _
    c.moved.result c.loop-state-test.true c.loop-state.auto.states c.loop-state.invariant c.moved.ensures
