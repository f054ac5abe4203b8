-- What the reader of marks has found so far.
use Rattle.std.specs.Prelude.{ℕ, ◌≡◌, ◌+◌, ◌<◌, ◌≤◌, List, [], ◌∷◌, ◌++◌, Vec, map, length, slice_index_or}
use Rattle.std.specs.Global.{Global}
use Rattle.std.specs.List.{AllZip}
use Rattle.text_io.specs.WordLists.{Kept}
use Rattle.fku_types.specs.declared.limits.TheConstants.{MAX_MARKS}
use Rattle.fku_types.specs.declared.fault.Fault.{Fault}
use Rattle.fku_types.specs.declared.fault.Fault.TheVariants.{NoMemory as NoMemoryLeft}
use Rattle.strip_graph.specs.Strips.{Strip, rows, cols}
use Rattle.landmarks.specs.declared.marks.Mark.{Mark}
use Rattle.landmarks.specs.declared.marks.MarkFault.{MarkFault}
use Rattle.landmarks.specs.declared.marks.MarkFault.TheVariants.{NoMemory}
use Rattle.landmarks.specs.declared.pieces.Marked.{Marked}
use Rattle.landmarks.specs.Marked.{part_of}
use Rattle.landmarks.specs.Faults.{AreGoodBefore, IsFirstFaultOfMarks as IsFirstMarkFault}
use Rattle.section_pairs.specs.Pairs.{PairParts}
use Rattle.pair_commands.specs.declared.mark_lines.PairMark.{PairMark}
use Rattle.pair_commands.specs.Landmarks.{AreMarks, IsToldOf, marks_of, marked_text, AreGoodMarks, SolvesPair, AreSolved, if_marked, marked_from, all_text, landmarks_text}

-- the kept lines that were read say these marks, and the others are left
pub record MarksSoFar (tail : List Kept) (marks : List PairMark) (left : List Kept) : Type 0 where
  pub done : List Kept
  pub split : tail ≡ done ++ left
  pub are : AreMarks done marks

-- the marks of each pair, from a number on
abbrev pub groups_from : ℕ → List PairParts → List PairMark → List (List Mark)
groups_from k [] marks = []
groups_from k (p ∷ ps) marks = marks_of k marks ∷ groups_from (k + 1) ps marks

abbrev pub lists_in : List (Vec Mark Global) → List (List Mark)
lists_in groups = map (λ (v : Vec Mark Global). v.items) groups

-- all marks of a pair are good
pub record IsGoodGroup (p : PairParts) (marks : List Mark) : Type 0 where
  pub few : length marks ≤ MAX_MARKS
  pub good : AreGoodBefore (rows p.strip) (cols p.strip) marks (length marks)

-- the good marks so far, each with those of its pair
pub record AreGrouped (pairs : List PairParts) (marks : List PairMark) (groups : List (List Mark)) : Type 0 where
  pub are : groups ≡ groups_from 1 pairs marks
  pub good : AreGoodMarks pairs marks
  pub each : (i : ℕ) (p : PairParts) → i < length pairs
      → IsGoodGroup (slice_index_or pairs i p) (slice_index_or groups i [])

-- the fault of an input for a fault of marks, `NoMemory` included
abbrev pub IsToldOr : PairMark → MarkFault → Fault → Type 0
IsToldOr x NoMemory fault = fault ≡ NoMemoryLeft
IsToldOr x cause fault = IsToldOf x cause fault

-- the text of a marked tiling, by the number of its pair and of its marks
abbrev pub marked_of : ℕ → ℕ → Marked → List ℕ
marked_of k count m = marked_text k count m.at m.cost m.word.items (map part_of m.pieces.items)

-- the fault of an input for a fault of a mark that is not `NoMemory`
pub record IsCauseOf (m n : ℕ) (marks : List Mark) (x : PairMark) (fault : Fault) : Type 0 where
  pub cause : MarkFault
  pub first : IsFirstMarkFault m n marks cause
  pub told : IsToldOf x cause fault

-- the lines of a pair were appended to others, if it has marks; and for how many pairs these are
pub record IsPairText (k : ℕ) (strip : Strip) (marks : List Mark) (old new : List ℕ) (n : ℕ) : Type 0 where
  pub solved : List Marked
  pub each : AllZip SolvesPair (if_marked k strip marks) solved
  pub put : new ≡ old ++ all_text (if_marked k strip marks) solved
  pub counted : n ≡ length (if_marked k strip marks)
  pub one : n ≤ 1

-- a whole text
pub record IsLandmarksText (pairs : List PairParts) (marks : List PairMark) (text : List ℕ) : Type 0 where
  pub solved : List Marked
  pub are : AreSolved pairs marks solved
  pub is : text ≡ landmarks_text (marked_from 1 pairs marks) solved
