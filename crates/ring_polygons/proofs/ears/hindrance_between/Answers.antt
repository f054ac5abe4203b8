use Rattle.std.proofs.Common.{arith, ◌≡◌, ◌<◌, ◌≤◌, ◌+◌, ℕ, Bool, false, inl, inr, sym, ap, ◌∙◌}
use Rattle.std.proofs.lemmas.Bool.{cases_eq}
use Rattle.ring_polygons.specs.Caps.{sign, hinders}
use Rattle.ring_polygons.proofs.EarTests.{outside}
use Rattle.ring_polygons.proofs.ears.hindrance_between.Goals as goal
use Rattle.ring_polygons.proofs.ears.hindrance_between.Goals.{else-is_near-via-then-is_near+else-hinders, else-is_near-via-else-is_near}

-- none from a place on to before another, nor that one
one_more : (test : ℕ → Bool) (a i : ℕ) → ((k : ℕ) → a ≤ k → k < i → test k ≡ false) → test i ≡ false → (k : ℕ) → a ≤ k
    → k < i + 1 → test k ≡ false
one_more test a i h e k l r = elim (cases_eq k i) [ inl s ↦ ap test s ∙ e | inr ne ↦ h k l (omega (arith, ne)) ]

pub loop-other-preserved : goal.loop-other-preserved
loop-other-preserved c =
    one_more (hinders c.args.twins (sign c.args.left) c.args.points.now c.args.place) c.args.from c.loop-other.other
    c.loop-other.invariant
    (elim c.else-is_near.branch [
      | else-is_near-via-then-is_near+else-hinders w ↦ sym w.hinders.ensures ∙ w.if-hinders.false
      | else-is_near-via-else-is_near w ↦ outside c.args.twins (sign c.args.left) c.args.points.now c.args.place _ _
          c.loop-other.other c.before_place.ensures.value c.after_place.ensures.value
          (sym c.is_within-is_near.ensures ∙ w.if-is_near.false)
    ])
