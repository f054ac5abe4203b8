-- A coordinate between two, times the denominator, stays in range.
use Rattle.std.proofs.Common.{◌≡◌, ℕ, ◌+◌, ◌-◌, ◌*◌, ◌≤◌, ℤ, pos, negsuc, ◌+ℤ◌, ◌-ℤ◌, ◌*ℤ◌, arith, subst, unsigned_abs}
use Rattle.std.proofs.Math.Nat.{mul-le-mul_left}
use Rattle.plane_geom.proofs.Vectors.{mul-sub}
use Rattle.std.proofs.lemmas.Int.{ints}
use Rattle.fku_types.specs.Points.{IsCoordinate}
use Rattle.plane_geom.specs.Segments.{scaled}

abbrev Bounded : ℕ → ℕ → ℤ → ℤ → Type 0
Bounded s t a b = unsigned_abs ((pos (s + t) *ℤ a) +ℤ (pos t *ℤ (b -ℤ a))) ≤ 999999 * (s + t)

mixed : (s t : ℕ) (a b : ℤ) → IsCoordinate a → IsCoordinate b → Bounded s t a b
mixed s t (pos m) (pos n) p q = omega
    (arith, ints, mul-sub (pos t) (pos n) (pos m), mul-le-mul_left s p, mul-le-mul_left t q)
mixed s t (pos m) (negsuc n) p q =
    omega (arith, ints, mul-sub (pos t) (negsuc n) (pos m), mul-le-mul_left s p, mul-le-mul_left t q)
mixed s t (negsuc m) (pos n) p q =
    omega (arith, ints, mul-sub (pos t) (pos n) (negsuc m), mul-le-mul_left s p, mul-le-mul_left t q)
mixed s t (negsuc m) (negsuc n) p q =
    omega (arith, ints, mul-sub (pos t) (negsuc n) (negsuc m), mul-le-mul_left s p, mul-le-mul_left t q)

pub within_between : (d t : ℕ) (a b : ℤ) → t ≤ d → IsCoordinate a → IsCoordinate b
    → unsigned_abs (scaled d t a b) ≤ 999999 * d
within_between d t a b h p q = subst (λ (n : ℕ). unsigned_abs (scaled n t a b) ≤ 999999 * n)
    (let e : d - t + t ≡ d = omega (arith, h) in e) (mixed (d - t) t a b p q)
