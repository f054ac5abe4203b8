-- Marks, and the tilings that contain them.
use Rattle.std.specs.Prelude.{◌≡◌, ℕ, ◌+◌, ◌%◌, ◌≤◌, List, ◌++◌, All, Contains}
use Rattle.strip_graph.specs.declared.tilings.Step.{Step}
use Rattle.strip_graph.specs.Words.{Arcs, count_v, count_h, word_cost, IsNotAfter}
use Rattle.strip_graph.specs.Tilings.{IsAcceptable}
use Rattle.landmarks.specs.declared.marks.Mark.{Mark}

-- a word from the span of row i and column j passes a span of the rings; its start and its end count
pub record Passes (m n i j : ℕ) (w : List Step) (k : Mark) : Type 0 where
  pub front : List Step
  pub back : List Step
  pub joins : w ≡ front ++ back
  pub row : (i + count_v front) % m ≡ k.row
  pub col : (j + count_h front) % n ≡ k.col

-- an acceptable tiling that contains all marks
pub record IsMarked (m n : ℕ) (marks : List Mark) (i j : ℕ) (w : List Step) : Type 0 where
  pub acceptable : IsAcceptable m n i j w
  pub contains : All (Passes m n i j w) marks

-- no tiling contains all of some marks
abbrev pub HaveNoTiling : ℕ → ℕ → List Mark → Type 0
HaveNoTiling m n marks = (i j : ℕ) (w : List Step) → IsMarked m n marks i j w → ⊥

-- a marked tiling, and no marked tiling from any start costs less
pub record IsLeastMarked (a : Arcs) (m n : ℕ) (marks : List Mark) (i j : ℕ) (w : List Step) : Type 0 where
  pub marked : IsMarked m n marks i j w
  pub least : (i' j' : ℕ) (w' : List Step) → IsMarked m n marks i' j' w' → word_cost a i j w ≤ word_cost a i' j' w'

-- one of the marks, and none has a smaller row
pub record IsFirstMark (marks : List Mark) (k : Mark) : Type 0 where
  pub is_mark : Contains marks k
  pub least : All (λ e. k.row ≤ e.row) marks

-- the least marked tiling that starts at the mark of least row, with the first word among those
pub record IsChosenMarked (a : Arcs) (m n : ℕ) (marks : List Mark) (at : Mark) (w : List Step) : Type 0 where
  pub start : IsFirstMark marks at
  pub least : IsLeastMarked a m n marks at.row at.col w
  pub first_word : (w' : List Step) → IsLeastMarked a m n marks at.row at.col w' → IsNotAfter w w'
