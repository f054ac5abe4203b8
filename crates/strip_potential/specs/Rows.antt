-- The potential of a strip, row by row.
use Rattle.std.specs.Prelude.{◌≡◌, ℕ, ◌+◌, ◌*◌, ◌<◌, ◌≤◌, ℤ, pos, List, length, slice_index_or}
use Rattle.strip_graph.specs.Strips.{Strip, rows, cols, arcs}
use Rattle.strip_graph.specs.Potentials.{potential}
use Rattle.strip_graph.specs.Certificates.{value_at}

-- the potential of a strip at the place of a row and a column
abbrev pub potential_at : Strip → ℕ → ℕ → ℤ
potential_at s = potential (arcs s) (rows s) (cols s)

-- a list has the potential at each place of row r
pub record HasRow (s : Strip) (r : ℕ) (values : List ℤ) : Type 0 where
  pub count : length values ≡ cols s + 1
  pub are : (c : ℕ) → c ≤ cols s → slice_index_or values c (pos 0) ≡ potential_at s r c

-- a list has the potential at each place of the first k rows, row after row
pub record HasRows (s : Strip) (k : ℕ) (pi : List ℤ) : Type 0 where
  pub count : length pi ≡ k * (cols s + 1)
  pub are : (r c : ℕ) → r < k → c ≤ cols s → value_at (cols s) pi r c ≡ potential_at s r c
