-- The solution of a strip, its chosen tiling and what that costs; and the offsets of its rows.
use Rattle.std.specs.Prelude.{◌≡◌, ℕ, ◌<◌, ℤ, pos, List, length, slice_index_or}
use Rattle.strip_graph.specs.declared.tilings.Step.{Step}
use Rattle.strip_graph.specs.Words.{Arcs, word_cost}
use Rattle.strip_graph.specs.Strips.{Strip, rows, cols, arcs}
use Rattle.strip_graph.specs.Tilings.{IsChosen}
use Rattle.strip_graph.specs.Distances.{offset}

-- a tiling from a row and column 0, and a cost
pub record Solution : Type 0 where
  pub row : ℕ
  pub word : List Step
  pub cost : ℤ

-- the chosen tiling of the strip, and its cost
pub record Solves (p : Strip) (s : Solution) : Type 0 where
  pub chosen : IsChosen (arcs p) (rows p) (cols p) s.row s.word
  pub cost : s.cost ≡ pos (word_cost (arcs p) s.row 0 s.word)

-- the offsets of the first k rows
pub record AreOffsets (a : Arcs) (m n k : ℕ) (xs : List ℤ) : Type 0 where
  pub count : length xs ≡ k
  pub are : (l : ℕ) → l < k → slice_index_or xs l (pos 0) ≡ offset a m n l
