-- A search back from the end of a turn, over the places that a potential leaves.
use Rattle.std.specs.Prelude.{◌≡◌, ℕ, zero, suc, List, [], ◌∷◌, cond, nat_le, ◌+◌, ◌<◌, ◌≤◌, ℤ, pos, ◌+ℤ◌, ◌≤ℤ◌, ◌<ℤ◌, Bool, true, false}
use Rattle.strip_graph.specs.declared.tilings.Step.{Step}
use Rattle.strip_graph.specs.declared.tilings.Step.TheVariants.{V, H}
use Rattle.strip_graph.specs.Words.{Arcs}

-- a place of row i + k is left where the potential and what it costs from there on sum up to at most the limit
abbrev pub IsLeft : (ℕ → ℕ → ℤ) → ℕ → ℤ → (ℕ → ℕ → ℤ) → ℕ → ℕ → Type 0
IsLeft phi i limit t k c = (phi (i + k) c +ℤ t k c) ≤ℤ limit

-- from a place the way leads on by V, or by H, which costs less
pub record GoesDown (a : Arcs) (i m : ℕ) (t : ℕ → ℕ → ℤ) (k c : ℕ) : Type 0 where
  pub more : k < m
  pub cost : t k c ≡ pos (a (i + k) c V) +ℤ t (k + 1) c

pub record GoesRight (a : Arcs) (i m n : ℕ) (t : ℕ → ℕ → ℤ) (k c : ℕ) : Type 0 where
  pub more : c < n
  pub cost : t k c ≡ pos (a (i + k) c H) +ℤ t k (c + 1)
  pub less : k < m → t k c <ℤ (pos (a (i + k) c V) +ℤ t (k + 1) c)

-- costs t of the places of rows i to i + m from column `from` on to the end, row i + m and column n: where the
-- potential leaves a step its costs were compared, and the way of each place that is left was noted
pub record IsSearched (a : Arcs) (phi : ℕ → ℕ → ℤ) (i m n : ℕ) (limit : ℤ) (from : ℕ) (t : ℕ → ℕ → ℤ)
    (way : ℕ → ℕ → Bool) : Type 0 where
  pub ending : t m n ≡ pos 0
  pub down : (k c : ℕ) → k < m → from ≤ c → c ≤ n
      → (phi (i + k) c +ℤ (pos (a (i + k) c V) +ℤ t (k + 1) c)) ≤ℤ limit
      → t k c ≤ℤ (pos (a (i + k) c V) +ℤ t (k + 1) c)
  pub right : (k c : ℕ) → k ≤ m → from ≤ c → c < n
      → (phi (i + k) c +ℤ (pos (a (i + k) c H) +ℤ t k (c + 1))) ≤ℤ limit
      → t k c ≤ℤ (pos (a (i + k) c H) +ℤ t k (c + 1))
  pub goes_down : (k c : ℕ) → k ≤ m → from ≤ c → c ≤ n → IsLeft phi i limit t k c → way k c ≡ true
      → GoesDown a i m t k c
  pub goes_right : (k c : ℕ) → k ≤ m → from ≤ c → c ≤ n → k + c < m + n → IsLeft phi i limit t k c → way k c ≡ false
      → GoesRight a i m n t k c

-- the word along the ways from a place, of so many letters
unfoldable pub spell : (ℕ → ℕ → Bool) → ℕ → ℕ → ℕ → List Step
spell way zero k c = []
spell way (suc f) k c = cond (way k c) (V ∷ spell way f (k + 1) c) (H ∷ spell way f k (c + 1))

-- the ways of a search, held inside the rows and columns
abbrev pub guarded : ℕ → ℕ → (ℕ → ℕ → Bool) → ℕ → ℕ → Bool
guarded m n way k c = cond (nat_le m k) false (cond (nat_le n c) true (way k c))
