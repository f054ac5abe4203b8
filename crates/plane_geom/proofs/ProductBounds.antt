-- Bounds on products of differences of coordinates, and on differences of such products.
use Rattle.std.proofs.Common.{arith, rules, ◌≤◌, ℤ, ◌-ℤ◌, ◌*ℤ◌, unsigned_abs, FitsSigned, w64, mul-le-mul}
use Rattle.std.proofs.lemmas.Int.{fits_signed_mul, unsigned_abs-mul, ints}

pub product_fits : (a b : ℤ) → unsigned_abs a ≤ 1999998 → unsigned_abs b ≤ 1999998 → FitsSigned w64 (a *ℤ b)
product_fits a b p q = fits_signed_mul w64 a b 1999998 1999998 p q (search (rules, arith))

pub product-le : (a b : ℤ) → unsigned_abs a ≤ 1999998 → unsigned_abs b ≤ 1999998 → unsigned_abs (a *ℤ b) ≤ 4000000000000
product-le a b p q = omega (arith, unsigned_abs-mul a b, mul-le-mul p q)

pub difference-le : (x y : ℤ) → unsigned_abs x ≤ 4000000000000 → unsigned_abs y ≤ 4000000000000
    → unsigned_abs (x -ℤ y) ≤ 8000000000000
difference-le x y p q = omega (arith, ints)
