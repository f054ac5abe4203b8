-- Lists of a value for each of some numbers in order.
use Rattle.std.proofs.Common.{◌≡◌, ℕ, zero, suc, ◌+◌, ◌*◌, ◌<◌, ◌≤◌, List, [], ◌∷◌, map, refl, ap, arith}
use Rattle.std.specs.List.{range_with_len, AllByRecursion, sum_by}
use Rattle.std.proofs.lemmas.List.Sums.{sum_by-cons}

pub all_range : {X : Type 0} (P : X → Type 0) (f : ℕ → X) (a n : ℕ) → ((k : ℕ) → a ≤ k → k < a + n → P (f k))
    → AllByRecursion P (map f (range_with_len a n))
all_range P f a zero h = tt
all_range P f a (suc n) h = (
  h a (omega arith) (omega arith),
  all_range P f (a + 1) n (λ k l m. h k (omega arith) (omega arith)),
)

pub map_map : {X Y Z : Type 0} (g : Y → Z) (f : X → Y) (xs : List X) → map g (map f xs) ≡ map (λ x. g (f x)) xs
map_map g f [] = refl
map_map g f (x ∷ xs) = ap (λ zs. g (f x) ∷ zs) (map_map g f xs)

-- the sum of equal numbers
pub sum_same : {X : Type 0} (g : X → ℕ) (f : ℕ → X) (k a n : ℕ) → ((s : ℕ) → g (f s) ≡ k)
    → sum_by g (map f (range_with_len a n)) ≡ n * k
sum_same g f k a zero e = omega arith
sum_same g f k a (suc n) e = omega
    (arith, sum_by-cons g (f a) (map f (range_with_len (a + 1) n)), e a, sum_same g f k (a + 1) n e)
