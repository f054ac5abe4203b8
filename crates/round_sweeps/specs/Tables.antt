-- Tables of columns that are potentials, and what these rise by in the turns.
use Rattle.std.specs.Prelude.{◌≡◌, ℕ, ◌+◌, ◌*◌, ◌<◌, ◌≤◌, ◌^◌, ℤ, pos, ◌+ℤ◌, ◌-ℤ◌, ◌≤ℤ◌, unsigned_abs, List, length, drop}
use Rattle.fku_types.specs.declared.limits.TheConstants.{MAX_COMPOSITE_VERTICES}
use Rattle.strip_graph.specs.declared.tilings.Step.{Step}
use Rattle.strip_graph.specs.Words.{Arcs}
use Rattle.strip_graph.specs.Feasible.{IsForwardRound, IsRowPeriodic, AreTurnBounds}
use Rattle.round_sweeps.specs.Columns.{value_limit, at_row, table_at, AreRowsBounded}

-- a strip has rows and columns, and both go round
pub record GoesRound (a : Arcs) (m n : ℕ) : Type 0 where
  pub rows : 0 < m
  pub cols : 0 < n
  pub periodic : IsRowPeriodic a m
  pub periodic_cols : (i j : ℕ) (t : Step) → a i (j + n) t ≡ a i j t

-- a table has columns 0 to n, and what stands there and what they rise by in a turn of the rows is in range
pub record AreColumnsInRange (m n : ℕ) (s : ℤ) (table : List ℤ) : Type 0 where
  pub few_rows : m ≤ MAX_COMPOSITE_VERTICES
  pub few_cols : n ≤ MAX_COMPOSITE_VERTICES
  pub room : (n + 1) * m ≤ length table
  pub inside : (c : ℕ) → c ≤ n → AreRowsBounded m (drop (c * m) table)
  pub round_least : pos 0 ≤ℤ s
  pub round_most : s ≤ℤ value_limit

-- such a table is searched from row i on, under a limit in range
pub record IsSearchable (m n : ℕ) (s : ℤ) (table : List ℤ) (i : ℕ) (limit : ℤ) : Type 0 where
  pub table_fits : AreColumnsInRange m n s table
  pub start : i < m
  pub limit_least : pos 0 ≤ℤ limit
  pub limit_most : limit ≤ℤ value_limit

-- a table of columns is a potential of one turn, from some start values
pub record IsTable (a : Arcs) (m n : ℕ) (s : ℤ) (table : List ℤ) : Type 0 where
  pub start : ℕ → ℤ
  pub potential : IsForwardRound a m n s start (table_at m table)

-- what a potential rises by in the turns, by the first and the last column of its table
abbrev pub AreRises : ℕ → ℕ → ℤ → List ℤ → List ℤ → Type 0
AreRises m n s table bounds =
    (r : ℕ) → r < m → at_row bounds r ≡ (table_at m table r n -ℤ table_at m table r 0) +ℤ s

-- a bound of each turn, in range
pub record AreFitBounds (a : Arcs) (m n : ℕ) (bounds : List ℤ) : Type 0 where
  pub turns : AreTurnBounds a m n (at_row bounds)
  pub fit : (r : ℕ) → r < m → unsigned_abs (at_row bounds r) < 2 ^ 63
