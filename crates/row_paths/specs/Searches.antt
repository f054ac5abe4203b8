-- Searches inside a region whose columns two lists bound.
use Rattle.std.specs.Prelude.{◌≡◌, ℕ, ◌+◌, ◌-◌, ◌*◌, ◌≤◌, ◌<◌, ◌⊎◌, min, Bool, true, false, List, length, slice_index, slice_index_or}
use Rattle.strip_graph.specs.Words.{Arcs}
use Rattle.strip_graph.specs.declared.tilings.Step.{Step}
use Rattle.strip_graph.specs.Distances.{IsFirst}
use Rattle.strip_graph.specs.Paths.{entry}
use Rattle.strip_graph.specs.Regions.{IsWithin, IsRegional, GoesV, GoesH}

-- the number of a list at a row, or its last one
abbrev pub bound_at : List ℕ → ℕ → ℕ
bound_at xs x = slice_index xs (min x (length xs - 1))

-- the last column of a row, where the list has the columns in which a word enters the rows
abbrev pub last_at : List ℕ → ℕ → ℕ
last_at xs x = bound_at xs (x + 1)

-- each row of a region is joined to the next, and its last row reaches the last column
pub record IsRegion (lo hi : ℕ → ℕ) (n end : ℕ) : Type 0 where
  pub rises : (x : ℕ) → hi x ≤ hi (x + 1)
  pub joined : (x : ℕ) → lo (x + 1) ≤ hi x
  pub sinks : (x : ℕ) → lo x ≤ lo (x + 1)
  pub within : (x : ℕ) → hi x ≤ n
  pub ends : hi end ≡ n

-- a cost in the region from row x and column c to row `end` and column n, which is not large where each step costs at
-- most b
pub record IsPlaceCost (b : ℕ) (a : Arcs) (lo hi : ℕ → ℕ) (end n x c cost : ℕ) : Type 0 where
  pub regional : IsRegional a lo hi x c (end - x) (n - c) cost
  pub small : cost ≤ (end - x + (n - c)) * b

-- a row of costs has those of the places of row x from column `first` on
abbrev pub HasCosts : ℕ → Arcs → (ℕ → ℕ) → (ℕ → ℕ) → ℕ → ℕ → ℕ → List ℕ → ℕ → Type 0
HasCosts b a lo hi end n x costs first =
    (c : ℕ) → first ≤ c → c ≤ hi x → IsPlaceCost b a lo hi end n x c (slice_index costs c)

-- it has those of the region's places of row x before column `last`
abbrev pub HasCostsBefore : ℕ → Arcs → (ℕ → ℕ) → (ℕ → ℕ) → ℕ → ℕ → ℕ → List ℕ → ℕ → Type 0
HasCostsBefore b a lo hi end n x costs last =
    (c : ℕ) → lo x ≤ c → c < last → IsPlaceCost b a lo hi end n x c (slice_index costs c)

-- from row x and column c each canonical word to row `end` and column n that stays in the region goes on by V, or by H
pub record LeadsDown (a : Arcs) (lo hi : ℕ → ℕ) (end n x c : ℕ) : Type 0 where
  pub row : x < end
  pub goes : (w : List Step) → IsFirst a x c (end - x) (n - c) w → IsWithin lo hi x c w
      → GoesV a lo hi x c (end - (x + 1)) (n - c) w

pub record LeadsRight (a : Arcs) (lo hi : ℕ → ℕ) (end n x c : ℕ) : Type 0 where
  pub col : c < n
  pub goes : (w : List Step) → IsFirst a x c (end - x) (n - c) w → IsWithin lo hi x c w
      → GoesH a lo hi x c (end - x) (n - (c + 1)) w

-- whether these words go on by V, if a step is left
abbrev pub IsWay : Arcs → (ℕ → ℕ) → (ℕ → ℕ) → ℕ → ℕ → ℕ → ℕ → Bool → Type 0
IsWay a lo hi end n x c true = LeadsDown a lo hi end n x c
IsWay a lo hi end n x c false = x + c < end + n → LeadsRight a lo hi end n x c

-- a table of rows of n + 1 has the ways of row x from column `first` on
abbrev pub HasWays : Arcs → (ℕ → ℕ) → (ℕ → ℕ) → ℕ → ℕ → ℕ → List Bool → ℕ → Type 0
HasWays a lo hi end n x ways first =
    (c : ℕ) → first ≤ c → c ≤ hi x → IsWay a lo hi end n x c (slice_index_or ways (x * (n + 1) + c) false)

-- two tables of rows of n + 1 agree except in row x
abbrev pub IsSameBut : ℕ → ℕ → List Bool → List Bool → Type 0
IsSameBut n x ways ways' =
    (k : ℕ) → (k < x * (n + 1)) ⊎ ((x + 1) * (n + 1) ≤ k) → slice_index_or ways' k false ≡ slice_index_or ways k false

-- all ways of the rows from `first` to `end`
abbrev pub HasAllWays : Arcs → (ℕ → ℕ) → (ℕ → ℕ) → ℕ → ℕ → List Bool → ℕ → Type 0
HasAllWays a lo hi end n ways first = (x : ℕ) → first ≤ x → x ≤ end → HasWays a lo hi end n x ways (lo x)

-- the canonical words from a row and column 0 to row `end` and column n stay in a region
abbrev pub StaysIn : Arcs → (ℕ → ℕ) → (ℕ → ℕ) → ℕ → ℕ → ℕ → Type 0
StaysIn a lo hi n start end = (w : List Step) → IsFirst a start 0 (end - start) n w → IsWithin lo hi start 0 w

-- a list has the columns in which these words enter the rows
abbrev pub HasEntries : Arcs → ℕ → ℕ → ℕ → List ℕ → Type 0
HasEntries a n start end path =
    (w : List Step) → IsFirst a start 0 (end - start) n w → (x : ℕ) → bound_at path x ≡ entry start 0 w x
