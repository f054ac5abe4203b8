-- The square of a small signed number.
use Rattle.std.proofs.Common.{arith, ◌≡◌, ◌∙◌, ◌*◌, ◌≤◌, ℤ, pos, ◌*ℤ◌, unsigned_abs, ap, to_z, of_z, w64, mul-le-mul}
use Rattle.std.proofs.Math.IntN.{pos-*ℤ-pos, negsuc-*ℤ-negsuc}
use Rattle.std.proofs.lemmas.Int.{unsigned_abs-mul}
use Rattle.plane_geom.proofs.Signed.{passed_i64, squared}

pub small_squared : (x : ℤ) → unsigned_abs x ≤ 1999998
    → to_z w64 (of_z w64 (to_z w64 (of_z w64 x) *ℤ to_z w64 (of_z w64 x))) ≡ pos (unsigned_abs x * unsigned_abs x)
small_squared x h =
    let small : unsigned_abs x ≤ 8000000000000 = omega (arith, h) in
    let size : unsigned_abs (x *ℤ x) ≤ 8000000000000 = omega (arith, unsigned_abs-mul x x, mul-le-mul h h) in
    ap (λ (y : ℤ). to_z w64 (of_z w64 (y *ℤ y))) (passed_i64 x small) ∙ passed_i64 (x *ℤ x) size ∙ squared x
