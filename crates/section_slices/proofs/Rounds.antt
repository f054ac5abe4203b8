-- Rounding: how close a rounded coordinate is, and that it stays in range.
use Rattle.std.proofs.Common.{◌≡◌, ℕ, ◌+◌, ◌*◌, ◌<◌, ◌≤◌, inl, inr, ℤ, pos, negsuc, ◌+ℤ◌, ◌*ℤ◌, ◌≤ℤ◌, ◌<ℤ◌, arith, nat_abs, w32, w64, to_z, of_z, FitsSigned, ap₂, ◌∙◌}
use Rattle.std.proofs.Math.Nat.{mul-le-mul_left}
use Rattle.std.proofs.lemmas.Bool.{cases_lt}
use Rattle.std.proofs.lemmas.Int.{ints}
use Rattle.std.specs.Int.{int_div_euclid}
use Rattle.fku_types.specs.Points.{IsCoordinate}
use Rattle.section_slices.specs.Roundings.{rounded, IsClose}

-- the quotient q that rounds down has k * q ≤ a < k * q + k
pub floor : (a : ℤ) (k : ℕ) → 0 < k → ((pos k *ℤ int_div_euclid a (pos k)) ≤ℤ a)
    × (a <ℤ ((pos k *ℤ int_div_euclid a (pos k)) +ℤ pos k))
floor (pos a) k h = (omega (arith, ints), omega (arith, ints))
floor (negsuc a) k h = (omega (arith, ints), omega (arith, ints))

pub close : (d : ℕ) (x : ℤ) → 1 ≤ d → IsClose d x (rounded d x)
close d x h = let f = floor ((pos 2 *ℤ x) +ℤ pos d) (2 * d) (omega arith) in omega (arith, ints, f.0, f.1)

-- no greater number does: y and r differ by at least one, and k times that is more than what is left
below : (k : ℕ) (a y r : ℤ) → 0 < k → (pos k *ℤ y) ≤ℤ a → a <ℤ ((pos k *ℤ r) +ℤ pos k) → y ≤ℤ r
below k a (pos m) (pos n) h lo hi =
    elim (cases_lt n m) [
      | inl l ↦ (let q : n + 1 ≤ m = omega (arith, l) in
          absurd (omega (arith, ints, lo, hi, mul-le-mul_left k q)))
      | inr g ↦ omega (arith, ints, g)
    ]
below k a (pos m) (negsuc n) h lo hi = absurd (omega (arith, ints, lo, hi))
below k a (negsuc m) (pos n) h lo hi = omega (arith, ints)
below k a (negsuc m) (negsuc n) h lo hi =
    elim (cases_lt m n) [
      | inl l ↦ (let q : m + 1 ≤ n = omega (arith, l) in
          absurd (omega (arith, ints, lo, hi, mul-le-mul_left k q)))
      | inr g ↦ omega (arith, ints, g)
    ]

pub greatest : (d : ℕ) (x y : ℤ) → 1 ≤ d → (pos (2 * d) *ℤ y) ≤ℤ ((pos 2 *ℤ x) +ℤ pos d) → y ≤ℤ rounded d x
greatest d x y h k = below (2 * d) ((pos 2 *ℤ x) +ℤ pos d) y (rounded d x) (omega (arith, h)) k
    (floor ((pos 2 *ℤ x) +ℤ pos d) (2 * d) (omega (arith, h))).1

bounded : (d : ℕ) (x r : ℤ) → 1 ≤ d → nat_abs x ≤ 999999 * d → (pos (2 * d) *ℤ r) ≤ℤ ((pos 2 *ℤ x) +ℤ pos d)
    → ((pos 2 *ℤ x) +ℤ pos d) <ℤ ((pos (2 * d) *ℤ r) +ℤ pos (2 * d)) → IsCoordinate r
bounded d x (pos n) h b lo hi = elim (cases_lt n 1000000)
    [ inl l ↦ omega (arith, l) | inr g ↦ absurd (omega (arith, ints, lo, b, h, mul-le-mul_left d g)) ]
bounded d x (negsuc n) h b lo hi =
    elim (cases_lt n 999999) [
      | inl l ↦ omega (arith, l)
      | inr g ↦ absurd
          (omega (arith, ints, hi, b, h, mul-le-mul_left d g))
    ]

pub in_range : (d : ℕ) (x : ℤ) → 1 ≤ d → nat_abs x ≤ 999999 * d → IsCoordinate (rounded d x)
in_range d x h b = let f = floor ((pos 2 *ℤ x) +ℤ pos d) (2 * d) (omega arith) in bounded d x (rounded d x) h b f.0 f.1

-- the numbers that the code divides
pub quotient : (den : ℕ) (x d q : ℤ) → 1 ≤ den → den ≤ 1999998 → nat_abs x ≤ 999999 * den → d ≡ pos den
    → q ≡ int_div_euclid (to_z w64 (of_z w64
    (to_z w64 (of_z w64 (pos 2 *ℤ to_z w64 (of_z w64 x))) +ℤ to_z w64 (of_z w64 d))))
    (to_z w64 (of_z w64 (pos 2 *ℤ to_z w64 (of_z w64 d))))
    → q ≡ rounded den x
quotient den x d q h k b e f =
    let above : to_z w64 (of_z w64 (to_z w64 (of_z w64 (pos 2 *ℤ to_z w64 (of_z w64 x))) +ℤ to_z w64 (of_z w64 d)))
    ≡ (pos 2 *ℤ x) +ℤ pos den = omega (arith, ints, e) in
    let below : to_z w64 (of_z w64 (pos 2 *ℤ to_z w64 (of_z w64 d))) ≡ pos (2 * den) = omega (arith, ints, e) in
    f ∙ ap₂ int_div_euclid above below

-- a coordinate that is read back
pub kept : (q r : ℤ) → q ≡ r → IsCoordinate r → to_z w32 (of_z w32 (to_z w64 (of_z w64 q))) ≡ r
kept q r e b = omega (arith, ints, e)

pub fits : (q r : ℤ) → q ≡ r → IsCoordinate r → FitsSigned w32 (to_z w64 (of_z w64 q))
fits q r e b = omega (arith, ints, e)
