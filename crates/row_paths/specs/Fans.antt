-- Least costs from one place of a region to others.
use Rattle.std.specs.Prelude.{◌≡◌, ℕ, ◌+◌, ◌-◌, ◌≤◌, ◌<◌, List, max, slice_index}
use Rattle.strip_graph.specs.Words.{Arcs}
use Rattle.strip_graph.specs.Regions.{IsRegional}
use Rattle.row_paths.specs.Searches.{bound_at, IsPlaceCost}
use Rattle.row_paths.specs.Turns.{start_of, end_of, cost_of}

-- a row of costs has those of the region's places of row x from column j on up to column `last`
abbrev pub HasReached : ℕ → Arcs → (ℕ → ℕ) → (ℕ → ℕ) → ℕ → ℕ → ℕ → List ℕ → ℕ → Type 0
HasReached b a lo hi i j x costs last =
    (c : ℕ) → max (lo x) j ≤ c → c ≤ last → IsPlaceCost b a lo hi x c i j (slice_index costs c)

-- it has the costs of the places of row x after column `first`
abbrev pub HasReachedAfter : ℕ → Arcs → (ℕ → ℕ) → (ℕ → ℕ) → ℕ → ℕ → ℕ → List ℕ → ℕ → Type 0
HasReachedAfter b a lo hi i j x costs first =
    (c : ℕ) → first < c → c ≤ hi x → IsPlaceCost b a lo hi x c i j (slice_index costs c)

-- the costs from row i and column j to column n of the rows from row i to row x whose last column that is
abbrev pub HasEnds : Arcs → (ℕ → ℕ) → (ℕ → ℕ) → ℕ → ℕ → ℕ → ℕ → List ℕ → Type 0
HasEnds a lo hi i j n x ends =
    (y : ℕ) → i ≤ y → y ≤ x → hi y ≡ n → IsRegional a lo hi i j (y - i) (n - j) (slice_index ends y)

-- the costs from column 0 of the rows from row x to row `end` that begin there, to row `end` and column n
abbrev pub HasStarts : Arcs → (ℕ → ℕ) → (ℕ → ℕ) → ℕ → ℕ → ℕ → List ℕ → Type 0
HasStarts a lo hi end n x starts =
    (y : ℕ) → x ≤ y → y ≤ end → lo y ≡ 0 → IsRegional a lo hi y 0 (end - y) (n - 0) (slice_index starts y)

-- in row x two words share the place where the first one, q, enters the row; the second one is q'
pub record IsShared (m q q' : ℕ) (hi lo : List ℕ) (x : ℕ) : Type 0 where
  pub from : start_of q' ≤ x
  pub to : x ≤ end_of m q
  pub shared : bound_at hi x ≤ bound_at lo (x + 1)

-- the costs of the words between two are sums of two numbers: by their starts, and by their ends
abbrev pub HasTurnCosts : Arcs → ℕ → ℕ → ℕ → ℕ → List ℕ → List ℕ → Type 0
HasTurnCosts a m n q q' starts ends =
    (k : ℕ) → q < k → k < q' → slice_index starts (start_of k) + slice_index ends (end_of m k) ≡ cost_of a m n k
