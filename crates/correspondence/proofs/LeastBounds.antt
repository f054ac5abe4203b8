-- The smaller of two bounds and the greater, as the code computes them.
use Rattle.std.proofs.Common.{◌≡◌, ◌≤ℤ◌, ℤ, arith, SFits, w32, to_z, of_z}
use Rattle.std.specs.Int.{int_min, int_max}
use Rattle.std.proofs.lemmas.Int.{ints, clamps}
use Rattle.plane_geom.proofs.Tests.{min_passed, max_passed}

pub least : (l a r : ℤ) → SFits w32 l → SFits w32 a → r ≡ int_min (to_z w32 (of_z w32 l)) (to_z w32 (of_z w32 a))
    → (to_z w32 (of_z w32 r) ≤ℤ a) × (to_z w32 (of_z w32 r) ≤ℤ l)
least l a r f g h = let e = min_passed l a r f g h in (omega (arith, ints, clamps, e), omega (arith, ints, clamps, e))

pub greatest : (l a r : ℤ) → SFits w32 l → SFits w32 a → r ≡ int_max (to_z w32 (of_z w32 l)) (to_z w32 (of_z w32 a))
    → (a ≤ℤ to_z w32 (of_z w32 r)) × (l ≤ℤ to_z w32 (of_z w32 r))
greatest l a r f g h = let e = max_passed l a r f g h in
    (omega (arith, ints, clamps, e), omega (arith, ints, clamps, e))
