-- The definitions at worked examples: how many costs are read, and lists of columns.
use Rattle.std.proofs.Common.{◌≡◌, ℕ, zero, suc, ◌+◌, ◌<◌, ◌≤◌, [], ◌∷◌, lit<, lit≤, arith}
use mathlib.Core.Path.{refl}
use Rattle.std.specs.Prelude.{slice_index}
use Rattle.row_paths.specs.Counts.{digits, area, readings}
use Rattle.row_paths.specs.Fans.{IsShared}
use Rattle.row_paths.specs.Searches.{bound_at, last_at}
use Rattle.row_paths.specs.Turns.{area_between, IsFirstLeast}

-- ---- how many costs are read

binary_digits : (digits 0 ≡ 0) × (digits 1 ≡ 1) × (digits 3 ≡ 2) × (digits 4 ≡ 3) × (digits 1024 ≡ 11)
unfolding digits
binary_digits = (refl, refl, refl, refl, refl)

-- places of rows 5 to 7 whose columns go from the row's number to two more; and rows whose last column comes before the
-- first
places : (area (λ i. i) (λ i. i + 2) 5 3 ≡ 9) × (area (λ i. i) (λ i. i) 0 4 ≡ 4) × (area (λ i. 4) (λ i. 1) 0 3 ≡ 0)
places = (refl, refl, refl)

read_costs : (readings 1 25 8 ≡ 82) × (readings 4 40 8 ≡ 384) × (readings 0 40 8 ≡ 0)
unfolding digits
read_costs = (refl, refl, refl)

-- ---- lists of columns

bounds : (bound_at (5 ∷ 7 ∷ []) 0 ≡ 5) × (bound_at (5 ∷ 7 ∷ []) 1 ≡ 7) × (bound_at (5 ∷ 7 ∷ []) 9 ≡ 7)
    × (last_at (5 ∷ 7 ∷ 8 ∷ []) 0 ≡ 7) × (last_at (5 ∷ 7 ∷ 8 ∷ []) 2 ≡ 8)
bounds = (refl, refl, refl, refl, refl)

between : (area_between 2 (0 ∷ 0 ∷ 0 ∷ 1 ∷ 3 ∷ []) (0 ∷ 2 ∷ 3 ∷ 3 ∷ 3 ∷ []) 0 1 ≡ 14)
between = refl

least_first : IsFirstLeast (3 ∷ 1 ∷ 2 ∷ 1 ∷ []) 1
least_first = record { within = lit< tt; least = least; first = first }
  where
    least : (k : ℕ) → k < 4 → 1 ≤ slice_index (3 ∷ 1 ∷ 2 ∷ 1 ∷ []) k
    least zero l = omega arith
    least (suc zero) l = omega arith
    least (suc (suc zero)) l = omega arith
    least (suc (suc (suc zero))) l = omega arith
    least (suc (suc (suc (suc k)))) l = absurd (omega (arith, l))

    first : (k : ℕ) → k < 1 → 1 < slice_index (3 ∷ 1 ∷ 2 ∷ 1 ∷ []) k
    first zero l = omega arith
    first (suc k) l = absurd (omega (arith, l))

second_least : IsFirstLeast (3 ∷ 1 ∷ 2 ∷ 1 ∷ []) 3 → ⊥
second_least h = let l : 1 < 1 = h.first 1 (lit< tt) in omega (arith, l)

-- ---- words that share a place

shared : IsShared 4 0 2 (0 ∷ 0 ∷ 1 ∷ 2 ∷ 3 ∷ 4 ∷ []) (0 ∷ 0 ∷ 0 ∷ 2 ∷ 3 ∷ 4 ∷ []) 2
shared = record { from = lit≤ tt; to = lit≤ tt; shared = lit≤ tt }

not_shared : IsShared 4 0 2 (0 ∷ 2 ∷ 3 ∷ 4 ∷ []) (0 ∷ 0 ∷ 0 ∷ 2 ∷ []) 1 → ⊥
not_shared h = let l : 2 ≤ 0 = h.shared in omega (arith, l)
