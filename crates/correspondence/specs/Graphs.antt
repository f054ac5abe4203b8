-- A gap as a graph: its contours below and then those above are nodes, and rows state which of them correspond.
use Rattle.std.specs.Prelude.{◌≡◌, ◌↔◌, ◌⊎◌, ℕ, ◌+◌, ◌-◌, ◌*◌, ◌≤◌, ◌<◌, nat_lt, ◌&&◌, not, Bool, true, false, List, [], ◌∷◌, length, map, sum_by, filter, slice_index_or, slice_index, if◌then◌else◌, Vec}
use Rattle.std.specs.Global.{Global}
use Rattle.std.specs.List.{range_with_len, list_any, AllByRecursion}
use Rattle.correspondence.specs.Places.{has}
use Rattle.correspondence.specs.Components.{Members, IsRising, IsComponent, AreInOrder}

-- rows of a table
abbrev pub table_of : List (Vec Bool Global) → List (List Bool)
table_of rows = map (λ v. v.items) rows

abbrev pub mark : List Bool → ℕ → Bool
mark marks k = slice_index_or marks k false

abbrev pub cell : List (List Bool) → ℕ → ℕ → Bool
cell table i j = mark (slice_index_or table i []) j

-- a row of m cells, each true exactly if P holds
pub record IsRow (row : List Bool) (m : ℕ) (P : ℕ → Type 0) : Type 0 where
  pub columns : length row ≡ m
  pub cells : (j : ℕ) → j < m → (mark row j ≡ true) ↔ P j

-- n rows of m cells, each true exactly if the relation holds
pub record AreRows (table : List (List Bool)) (n m : ℕ) (R : ℕ → ℕ → Type 0) : Type 0 where
  pub rows : length table ≡ n
  pub columns : (i : ℕ) → i < n → length (slice_index_or table i []) ≡ m
  pub cells : (i j : ℕ) → i < n → j < m → (cell table i j ≡ true) ↔ R i j

-- two nodes are adjacent: the cell of their row and column is true
abbrev pub adjacent : List (List Bool) → ℕ → ℕ → Bool
adjacent table a b =
    if nat_lt a (length table) then (not (nat_lt b (length table)) && cell table a (b - length table))
    else (nat_lt b (length table) && cell table b (a - length table))

-- a path of nodes leads from one node to another, each adjacent to the next
abbrev pub LeadsAlong : (ℕ → ℕ → Bool) → ℕ → List ℕ → ℕ → Type 0
LeadsAlong R a [] b = a ≡ b
LeadsAlong R a (c ∷ cs) b = (R a c ≡ true) × LeadsAlong R c cs b

abbrev pub Reaches : (ℕ → ℕ → Bool) → ℕ → ℕ → Type 0
Reaches R a b = (via : List ℕ) × LeadsAlong R a via b

-- how many nodes are not marked
abbrev pub unmarked_count : List Bool → ℕ
unmarked_count marks = sum_by (λ b. if b then 0 else 1) marks

-- of the first n nodes, those adjacent to a node were marked, and those that had no mark before now wait
pub record Visits (R : ℕ → ℕ → Bool) (from n : ℕ) (old new : List Bool) (before waiting : List ℕ) : Type 0 where
  pub size : length new ≡ length old
  pub kept : (k : ℕ) → mark old k ≡ true → mark new k ≡ true
  pub added : (k : ℕ) → k < n → R from k ≡ true → mark new k ≡ true
  pub only : (k : ℕ) → mark new k ≡ true → (mark old k ≡ true) ⊎ (R from k ≡ true)
  pub stay : (k : ℕ) → has k before ≡ true → has k waiting ≡ true
  pub wait : (k : ℕ) → mark new k ≡ true → mark old k ≡ false → has k waiting ≡ true
  pub marked : (k : ℕ) → has k waiting ≡ true → (has k before ≡ true) ⊎ (mark new k ≡ true)
  pub less : 2 * unmarked_count new + length waiting ≤ 2 * unmarked_count old + length before

-- the marked nodes are those that can be reached from the root
pub record AreReached (R : ℕ → ℕ → Bool) (root n : ℕ) (marks : List Bool) : Type 0 where
  pub size : length marks ≡ n
  pub reached : (k : ℕ) → (mark marks k ≡ true) ↔ Reaches R root k

-- the places of marks
abbrev pub marked_places : List Bool → List ℕ
marked_places marks = filter (mark marks) (range_with_len 0 (length marks))

-- the contours of a row and of a column correspond
abbrev pub cell_links : List (List Bool) → ℕ → ℕ → Type 0
cell_links table i j = cell table i j ≡ true

-- the contours below and above that can be reached from a contour below, in file order
pub record IsGathered (table : List (List Bool)) (m root : ℕ) (c : Members) : Type 0 where
  pub below : (k : ℕ) → (has k c.below ≡ true) ↔ ((k < length table) × Reaches (adjacent table) root k)
  pub above : (k : ℕ) → (has k c.above ≡ true) ↔ ((k < m) × Reaches (adjacent table) root (length table + k))
  pub below_in_order : IsRising c.below
  pub above_in_order : IsRising c.above
  pub below_there : AllByRecursion (λ k. k < length table) c.below
  pub above_there : AllByRecursion (λ k. k < m) c.above

-- the components that begin with one of the first r contours below
pub record AreBegun (links : ℕ → ℕ → Type 0) (n m r : ℕ) (cs : List Members) : Type 0 where
  pub components : AllByRecursion (IsComponent links n m) cs
  pub in_order : AreInOrder cs
  pub firsts : AllByRecursion (λ c. slice_index c.below 0 < r) cs
  pub every : (i j : ℕ) → i < r → links i j → list_any (λ c. has i c.below) cs ≡ true
