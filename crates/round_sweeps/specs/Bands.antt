-- A search back from the ends of many turns, over the places that a potential leaves.
use Rattle.std.specs.Prelude.{◌≡◌, ℕ, ◌+◌, ◌≤◌, ℤ, pos, ◌+ℤ◌, ◌≤ℤ◌, List}
use Rattle.strip_graph.specs.declared.tilings.Step.{Step}
use Rattle.strip_graph.specs.Words.{Arcs, count_v, count_h, word_cost}

-- what a word from column c of row i + k costs, with the number of the row of column n where it ends
abbrev pub ended_cost : Arcs → ℕ → (ℕ → ℤ) → ℕ → ℕ → List Step → ℤ
ended_cost a i ends k c w = pos (word_cost a (i + k) c w) +ℤ ends (k + count_v w)

-- the sums of rows i to i + h and column c are at most what each word costs from there to an end, with the number of
-- that end, where the potential leaves it
abbrev pub IsBand : Arcs → (ℕ → ℕ → ℤ) → ℕ → ℕ → ℕ → ℤ → ℕ → (ℕ → ℤ) → (ℕ → ℤ) → Type 0
IsBand a phi i h n limit c ends sums =
    (k : ℕ) (w : List Step) → k + count_v w ≤ h → c + count_h w ≡ n
    → (phi (i + k) c +ℤ ended_cost a i ends k c w) ≤ℤ limit → sums k ≤ℤ ended_cost a i ends k c w
