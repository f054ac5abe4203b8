-- Blocks of edges, place after place.
use Rattle.std.proofs.Common.{◌≡◌, ℕ, ◌+◌, ◌-◌, ◌<◌, ◌≤◌, inl, inr, List, length, take, drop, get_or, sym, ap, subst, ◌∙◌, arith}
use Rattle.std.proofs.Math.Nat.{eq-or-lt_of_le}
use Rattle.std.proofs.lemmas.Bool.{cases_lt}
use Rattle.std.proofs.lemmas.List.{get_or-take, get_or-drop, length-take, length-drop}
use Rattle.fku_types.specs.declared.points.Point.{Point}
use Rattle.plane_geom.specs.Rings.{around, origin}
use Rattle.correspondence.specs.declared.bounds.Bounds.{Bounds}
use Rattle.correspondence.specs.Bounding.{LiesWithin, Encloses}
use Rattle.correspondence.proofs.Rules.{begin_at}

-- what holds before a block and in it holds before its end
pub past_block : (P : ℕ → Type 0) (begin end : ℕ) → ((k : ℕ) → k < begin → P k) → ((k : ℕ) → begin ≤ k → k < end → P k)
    → (k : ℕ) → k < end → P k
past_block P begin end before here k l = elim (cases_lt k begin) [ inl b ↦ before k b | inr f ↦ here k f l ]

-- what holds in a block and at its end
pub with_end : (P : ℕ → Type 0) (begin end : ℕ) → ((k : ℕ) → begin ≤ k → k < end → P k) → P end → (k : ℕ) → begin ≤ k
    → k ≤ end → P k
with_end P begin end here last k from to =
    elim (eq-or-lt_of_le to) [ inl e ↦ subst P (sym e) last | inr l ↦ here k from l ]

-- bounds of a part of a ring's points
pub within_part : (b : Bounds) (ring : List Point) (begin end : ℕ) → end ≤ length ring
    → Encloses b (take (end - begin) (drop begin ring)) → (k : ℕ) → begin ≤ k → k < end → LiesWithin b (around ring k)
within_part b ring begin end within e k from to =
    let part = take (end - begin) (drop begin ring) in
    let there : k - begin < length (take (end - begin) (drop begin ring)) =
    omega (arith, length-take (end - begin) (drop begin ring), length-drop begin ring) in
    let read : get_or part (k - begin) origin ≡ get_or ring (begin + (k - begin)) origin =
    get_or-take (end - begin) (drop begin ring) (k - begin) origin (omega arith)
    ∙ get_or-drop begin ring (k - begin) origin in
    let place : begin + (k - begin) ≡ k = omega arith in
    subst (LiesWithin b) ((read ∙ ap (λ n. get_or ring n origin) place) ∙ begin_at ring k (omega arith))
    (e (k - begin) origin there)
