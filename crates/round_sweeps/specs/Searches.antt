-- One column of a search back.
use Rattle.std.specs.Prelude.{◌≡◌, ℕ, ◌+◌, ◌*◌, ◌%◌, ◌<◌, ◌≤◌, ◌^◌, ◌⊎◌, ℤ, pos, ◌+ℤ◌, ◌≤ℤ◌, ◌<ℤ◌, Bool, true, false, List, length, slice_index_or}
use Rattle.strip_graph.specs.Words.{Arcs}
use Rattle.strip_graph.specs.Feasible.{lifted, lifted_row}
use Rattle.fku_types.specs.declared.limits.TheConstants.{MAX_COMPOSITE_VERTICES}
use Rattle.round_sweeps.specs.Columns.{value_limit, at_row, table_at, AreRowsBounded}
use Rattle.round_sweeps.specs.Searched.{IsLeft, IsSearched}

-- what stands at a place that is not left
abbrev pub gone : ℤ
gone = pos (2 ^ 62)

abbrev pub way_of : List Bool → ℕ → Bool
way_of ways k = slice_index_or ways k false

-- the way of row k in column c, in a list of columns of m + 1
abbrev pub way_at : ℕ → List Bool → ℕ → ℕ → Bool
way_at m ways k c = way_of ways (c * (m + 1) + k)

-- the numbers of a potential in rows i to i + m, by its column of rows 0 to m - 1; what V costs from these rows, and H,
-- by the costs into rows 0 to m - 1
abbrev pub numbers_from : ℕ → ℤ → ℕ → List ℤ → ℕ → ℤ
numbers_from m s i column k = lifted_row m s (at_row column) (i + k)

abbrev pub downs_from : ℕ → ℕ → (ℕ → ℤ) → ℕ → ℤ
downs_from m i downs k = downs ((i + k + 1) % m)

abbrev pub rights_from : ℕ → ℕ → (ℕ → ℤ) → ℕ → ℤ
rights_from m i rights k = rights ((i + k) % m)

-- numbers of rows 0 to m lie between 0 and `gone`
pub record AreSumsOf (m : ℕ) (sums : List ℤ) : Type 0 where
  pub count : length sums ≡ m + 1
  pub least : (k : ℕ) → k ≤ m → pos 0 ≤ℤ at_row sums k
  pub most : (k : ℕ) → k ≤ m → at_row sums k ≤ℤ gone

-- only rows `first` to `last` are left
pub record IsWindow (m first last : ℕ) (sums : List ℤ) : Type 0 where
  pub within : last ≤ m
  pub outside : (k : ℕ) → k ≤ m → (k < first) ⊎ (last < k) → at_row sums k ≡ gone

-- a search of a column from row i on h rows further, and the numbers that it computes, are in range
pub record IsSearchInRange (i h : ℕ) (s limit : ℤ) (known : List ℤ) : Type 0 where
  pub start : i < length known
  pub few : length known ≤ MAX_COMPOSITE_VERTICES
  pub height : h < 2 * length known
  pub bounded : AreRowsBounded (length known) known
  pub round_least : pos 0 ≤ℤ s
  pub round_most : s ≤ℤ value_limit
  pub limit_least : pos 0 ≤ℤ limit
  pub limit_most : limit ≤ℤ value_limit

-- the less of what both steps from a place cost on, V where it is no dearer, where the limit leaves that
pub record IsStepChosen (limit number by_v by_h sum : ℤ) (way : Bool) : Type 0 where
  pub v : (number +ℤ by_v) ≤ℤ limit → sum ≤ℤ by_v
  pub h : (number +ℤ by_h) ≤ℤ limit → sum ≤ℤ by_h
  pub goes_down : (number +ℤ sum) ≤ℤ limit → way ≡ true → sum ≡ by_v
  pub goes_right : (number +ℤ sum) ≤ℤ limit → way ≡ false → sum ≡ by_h
  pub dearer : (number +ℤ sum) ≤ℤ limit → way ≡ false → sum <ℤ by_v

-- the same in row k of rows 0 to m, from the last of which H alone leads on
pub record IsPlaceSearched (m k : ℕ) (limit number by_v by_h sum : ℤ) (way : Bool) : Type 0 where
  pub down : k < m → (number +ℤ by_v) ≤ℤ limit → sum ≤ℤ by_v
  pub right : (number +ℤ by_h) ≤ℤ limit → sum ≤ℤ by_h
  pub goes_down : (number +ℤ sum) ≤ℤ limit → way ≡ true → (k < m) × (sum ≡ by_v)
  pub goes_right : (number +ℤ sum) ≤ℤ limit → way ≡ false → (sum ≡ by_h) × (k < m → sum <ℤ by_v)
  pub least : pos 0 ≤ℤ sum
  pub most : sum ≤ℤ gone

-- rows k to m of a column are searched: `old` has the sums of the next column, and `new` those of this one, in the rows
-- below k still those of the next one
pub record IsBackTo (m k : ℕ) (limit : ℤ) (phi downs rights : ℕ → ℤ) (old new : List ℤ) (ways : List Bool) : Type 0
  where
    pub rest : (j : ℕ) → j < k → at_row new j ≡ at_row old j
    pub down : (j : ℕ) → k ≤ j → j < m → (phi j +ℤ (downs j +ℤ at_row new (j + 1))) ≤ℤ limit
        → at_row new j ≤ℤ (downs j +ℤ at_row new (j + 1))
    pub right : (j : ℕ) → k ≤ j → j ≤ m → (phi j +ℤ (rights j +ℤ at_row old j)) ≤ℤ limit
        → at_row new j ≤ℤ (rights j +ℤ at_row old j)
    pub goes_down : (j : ℕ) → k ≤ j → j ≤ m → (phi j +ℤ at_row new j) ≤ℤ limit → way_of ways j ≡ true
        → (j < m) × (at_row new j ≡ downs j +ℤ at_row new (j + 1))
    pub goes_right : (j : ℕ) → k ≤ j → j ≤ m → (phi j +ℤ at_row new j) ≤ℤ limit → way_of ways j ≡ false
        → (at_row new j ≡ rights j +ℤ at_row old j) × (j < m → at_row new j <ℤ (downs j +ℤ at_row new (j + 1)))

-- a whole column is
abbrev pub IsBackColumn : ℕ → ℤ → (ℕ → ℤ) → (ℕ → ℤ) → (ℕ → ℤ) → List ℤ → List ℤ → List Bool → Type 0
IsBackColumn m limit phi downs rights old new ways = IsBackTo m 0 limit phi downs rights old new ways

-- the columns from `from` on are searched, and the sums of column `from` are kept
pub record IsSearchedTo (a : Arcs) (phi : ℕ → ℕ → ℤ) (i m n : ℕ) (limit : ℤ) (from : ℕ) (sums : List ℤ)
    (ways : List Bool) : Type 0 where
  pub costs : ℕ → ℕ → ℤ
  pub searched : IsSearched a phi i m n limit from costs (way_at m ways)
  pub are : (k : ℕ) → k ≤ m → costs k from ≡ at_row sums k

-- a search met the start of the turn of row i: what it noted leads from there to the end
pub record IsMet (a : Arcs) (m n : ℕ) (s : ℤ) (table : List ℤ) (i : ℕ) (limit : ℤ) (ways : List Bool) : Type 0 where
  pub costs : ℕ → ℕ → ℤ
  pub searched : IsSearched a (lifted m s (table_at m table)) i m n limit 0 costs (way_at m ways)
  pub left : IsLeft (lifted m s (table_at m table)) i limit costs 0 0
