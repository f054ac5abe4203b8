-- The spots of vertices are in range.
use Rattle.std.proofs.Common.{ℕ, ◌*◌, ◌/◌, ◌<◌, ◌≤◌, ℤ, pos, ◌*ℤ◌, arith, mul-le-mul}
use Rattle.std.specs.Prelude.{unsigned_abs}
use Rattle.std.proofs.Math.Nat.{div-lt_iff_lt-mul}
use Rattle.std.proofs.lemmas.Bool.Decides.{nat_tests}
use Rattle.std.proofs.lemmas.Int.{ints, unsigned_abs-mul}
use Rattle.std.proofs.lemmas.Nat.{mod_below}
use Rattle.fku_types.specs.Points.{IsCoordinate}
use Rattle.section_core.specs.Laws.{IsSpot}
use Rattle.demo_stack.specs.Demo.{radius, place, direction, demo_spot}

place_below : (t k : ℕ) → t < k → place t k < 8000
place_below t k h = (div-lt_iff_lt-mul {k = k} {x = 8000 * t} {y = 8000} (omega arith)).1 (omega arith)

direction_x : (p : ℕ) → p < 8000 → unsigned_abs (direction p).0 ≤ 1000
direction_x p h = grind (arith, ints, nat_tests)

direction_y : (p : ℕ) → p < 8000 → unsigned_abs (direction p).1 ≤ 1000
direction_y p h = grind (arith, ints, nat_tests)

radius_small : (s : ℕ) → radius s ≤ 199
radius_small s = omega (arith, mod_below (s / 65536) 100 (omega arith))

drawn_small : (r : ℕ) (z : ℤ) → r ≤ 199 → unsigned_abs z ≤ 1000 → IsCoordinate (pos r *ℤ z)
drawn_small r z h k = omega (arith, unsigned_abs-mul (pos r) z, mul-le-mul h k)

pub spot_in_range : (state k t : ℕ) → t < k → IsSpot (demo_spot state k t)
spot_in_range state k t h =
    let p = place_below t k h in (
      drawn_small (radius state) (direction (place t k)).0 (radius_small state) (direction_x (place t k) p),
      drawn_small (radius state) (direction (place t k)).1 (radius_small state) (direction_y (place t k) p),
    )
