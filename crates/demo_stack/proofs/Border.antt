-- The border round which the directions go.
use Rattle.std.proofs.Common.{◌≡◌, ℕ, ◌+◌, ◌%◌, ◌<◌, ◌≤◌, ◌⊎◌, inl, inr, ◌-ℤ◌, max, ap, ◌∙◌, arith}
use Rattle.std.specs.Prelude.{unsigned_abs}
use Rattle.std.proofs.Math.Nat.{mod-eq_of_lt, mod_self}
use Rattle.std.proofs.lemmas.Bool.{cases_lt}
use Rattle.std.proofs.lemmas.Bool.Decides.{nat_tests}
use Rattle.std.proofs.lemmas.Int.{ints}
use Rattle.section_core.specs.Parts.{Spot}
use Rattle.demo_stack.specs.Demo.{direction}

pub on_border : (p : ℕ) → p < 8000 → max (unsigned_abs (direction p).0) (unsigned_abs (direction p).1) ≡ 1000
on_border p h = grind (arith, ints, nat_tests)

-- the distance of two spots along the axes
abbrev apart : Spot → Spot → ℕ
apart a b = unsigned_abs (a.0 -ℤ b.0) + unsigned_abs (a.1 -ℤ b.1)

next_step : (p : ℕ) → p + 1 < 8000 → apart (direction (p + 1)) (direction p) ≡ 1
next_step p h = grind (arith, ints, nat_tests)

last_step : apart (direction 0) (direction 7999) ≡ 1
last_step = omega (arith, ints)

step_to : (p q : ℕ) → p < 8000 → ((p + 1 < 8000) × (q ≡ p + 1)) ⊎ ((p ≡ 7999) × (q ≡ 0))
    → apart (direction q) (direction p) ≡ 1
step_to p q h (inl l) = ap (λ (r : ℕ). apart (direction r) (direction p)) l.1 ∙ next_step p l.0
step_to p q h (inr l) = ap (λ (r : ℕ). apart (direction r) (direction p)) l.1
    ∙ ap (λ (r : ℕ). apart (direction 0) (direction r)) l.0 ∙ last_step

where_next : (p : ℕ) → p < 8000 → (p + 1 < 8000) ⊎ (8000 ≤ p + 1) → ((p + 1 < 8000) × ((p + 1) % 8000 ≡ p + 1))
    ⊎ ((p ≡ 7999) × ((p + 1) % 8000 ≡ 0))
where_next p h (inl l) = inl (l, mod-eq_of_lt l)
where_next p h (inr l) = let e : p + 1 ≡ 8000 = omega arith in
    inr (omega arith, ap (λ (r : ℕ). r % 8000) e ∙ mod_self 8000)

pub one_step : (p : ℕ) → p < 8000 → apart (direction ((p + 1) % 8000)) (direction p) ≡ 1
one_step p h = step_to p ((p + 1) % 8000) h (where_next p h (cases_lt (p + 1) 8000))
