-- What is wrong with a list of marks.
use Rattle.std.specs.Prelude.{◌≡◌, ℕ, ◌+◌, ◌-◌, ◌%◌, ◌<◌, ◌≤◌, ◌⊎◌, List, length, slice_index_or}
use Rattle.fku_types.specs.declared.limits.TheConstants.{MAX_MARKS}
use Rattle.landmarks.specs.declared.marks.Mark.{Mark}
use Rattle.landmarks.specs.declared.marks.MarkFault.{MarkFault}
use Rattle.landmarks.specs.declared.marks.MarkFault.TheVariants.{NoSpan, Repeated, Cross, NoMemory}

-- the mark at a place of the list
abbrev pub mark_at : List Mark → ℕ → Mark
mark_at marks q = slice_index_or marks q (record { row = 0; col = 0 })

-- a mark whose row or column the pair does not have
abbrev pub HasNoSpan : ℕ → ℕ → Mark → Type 0
HasNoSpan m n k = (m ≤ k.row) ⊎ (n ≤ k.col)

-- two marks have the same row or the same column
abbrev pub ShareLine : Mark → Mark → Type 0
ShareLine e k = (e.row ≡ k.row) ⊎ (e.col ≡ k.col)

-- no two marks of a list share a row or a column
abbrev pub AreMarksApart : List Mark → Type 0
AreMarksApart marks = (i j : ℕ) → i < j → j < length marks → ShareLine (mark_at marks i) (mark_at marks j) → ⊥

-- the distance from index `from` to index x, counted round a ring of `count`: the remainder of x - from, for from ≤ x +
-- count
abbrev pub distance_after : ℕ → ℕ → ℕ → ℕ
distance_after count from x = (x + count - from) % count

-- two marks cross: seen from a first mark, one has the smaller row and the larger column
abbrev pub GoAcross : ℕ → ℕ → Mark → Mark → Mark → Type 0
GoAcross m n o e k = (distance_after m o.row e.row < distance_after m o.row k.row)
    × (distance_after n o.col k.col < distance_after n o.col e.col)

-- an earlier mark of the list shares a row or a column with the mark at place q
pub record IsRepeated (marks : List Mark) (q : ℕ) : Type 0 where
  pub earlier : ℕ
  pub before : earlier < q
  pub shared : ShareLine (mark_at marks earlier) (mark_at marks q)

-- seen from the first mark of the list, an earlier mark and the one at place q cross
pub record MarksCross (m n : ℕ) (marks : List Mark) (q : ℕ) : Type 0 where
  pub earlier : ℕ
  pub before : earlier < q
  pub across : GoAcross m n (mark_at marks 0) (mark_at marks earlier) (mark_at marks q)
      ⊎ GoAcross m n (mark_at marks 0) (mark_at marks q) (mark_at marks earlier)

-- nothing is wrong with the mark at place q
pub record IsGood (m n : ℕ) (marks : List Mark) (q : ℕ) : Type 0 where
  pub row : (mark_at marks q).row < m
  pub col : (mark_at marks q).col < n
  pub new : IsRepeated marks q → ⊥
  pub straight : MarksCross m n marks q → ⊥

-- marks are good at all places before a place
abbrev pub AreGoodBefore : ℕ → ℕ → List Mark → ℕ → Type 0
AreGoodBefore m n marks count = (q : ℕ) → q < count → IsGood m n marks q

-- there are 1 to MAX_MARKS marks, and all of them are good
pub record AreSoundMarks (m n : ℕ) (marks : List Mark) : Type 0 where
  pub some : 1 ≤ length marks
  pub few : length marks ≤ MAX_MARKS
  pub good : AreGoodBefore m n marks (length marks)

-- there is a mark at place q, and all marks before it are good
pub record FollowsGood (m n : ℕ) (marks : List Mark) (q : ℕ) : Type 0 where
  pub there : q < length marks
  pub earlier : AreGoodBefore m n marks q

-- the fault of the first mark that is not good; the kinds of faults are tried in this order
abbrev pub IsFirstFaultOfMarks : ℕ → ℕ → List Mark → MarkFault → Type 0
IsFirstFaultOfMarks m n marks (NoSpan q) = FollowsGood m n marks q × HasNoSpan m n (mark_at marks q)
IsFirstFaultOfMarks m n marks (Repeated q) =
    FollowsGood m n marks q × (HasNoSpan m n (mark_at marks q) → ⊥) × IsRepeated marks q
IsFirstFaultOfMarks m n marks (Cross q) =
    FollowsGood m n marks q × (HasNoSpan m n (mark_at marks q) → ⊥) × (IsRepeated marks q → ⊥) × MarksCross m n marks q
IsFirstFaultOfMarks m n marks NoMemory = Unit {0}
