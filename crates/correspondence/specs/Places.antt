-- Places of contours in a section.
use Rattle.std.specs.Prelude.{◌≡◌, ℕ, ◌<◌, ◌==◌, Bool, false, List, [], ◌∷◌}
use Rattle.std.specs.List.{list_any, AllByRecursion}

-- a place is one of some places
abbrev pub has : ℕ → List ℕ → Bool
has k places = list_any (λ m. m == k) places

-- no place twice, and each below n
abbrev pub IsDistinct : List ℕ → Type 0
IsDistinct [] = Unit {0}
IsDistinct (k ∷ ks) = (has k ks ≡ false) × IsDistinct ks

abbrev pub ArePlaces : ℕ → List ℕ → Type 0
ArePlaces n ks = IsDistinct ks × AllByRecursion (λ k. k < n) ks
