-- The words whose costs give the offsets, in order: from row 0 to row m, from 0 to m + 1, from 1 to m + 1, and so on.
use Rattle.std.specs.Prelude.{◌≡◌, ℕ, ◌+◌, ◌-◌, ◌*◌, ◌/◌, ◌<◌, ◌≤◌, List, length, slice_index}
use Rattle.strip_graph.specs.Words.{Arcs}
use Rattle.strip_graph.specs.Distances.{distance}
use Rattle.strip_graph.specs.Strips.{Strip, arcs, rows, cols}
use Rattle.row_paths.specs.declared.gaps.Gap.{Gap}
use Rattle.row_paths.specs.Counts.{area}
use Rattle.row_paths.specs.Searches.{bound_at, last_at, HasEntries}

-- the row from which word q leads, and the row to which it leads, in a strip of m rows
abbrev pub start_of : ℕ → ℕ
start_of q = q / 2

abbrev pub end_of : ℕ → ℕ → ℕ
end_of m q = (q + 1) / 2 + m

-- the word's cost
abbrev pub cost_of : Arcs → ℕ → ℕ → ℕ → ℕ
cost_of a m n q = distance a (start_of q) 0 (end_of m q - start_of q) n

-- a list has the columns in which the word enters the rows
abbrev pub IsPathOf : Arcs → ℕ → ℕ → ℕ → List ℕ → Type 0
IsPathOf a m n q path = HasEntries a n (start_of q) (end_of m q) path

-- the costs of the first k words
pub record AreCosts (a : Arcs) (m n k : ℕ) (costs : List ℕ) : Type 0 where
  pub count : length costs ≡ k
  pub are : (q : ℕ) → q < k → slice_index costs q ≡ cost_of a m n q

-- two words with the columns in which they enter the rows, one above the other
pub record IsGap (p : Strip) (gap : Gap) : Type 0 where
  pub order : gap.first < gap.last
  pub last : gap.last + 2 ≤ 2 * rows p
  pub hi : length gap.hi.now ≡ 2 * rows p + 1
  pub lo : length gap.lo.now ≡ 2 * rows p + 1
  pub from : IsPathOf (arcs p) (rows p) (cols p) gap.first gap.hi.now
  pub to : IsPathOf (arcs p) (rows p) (cols p) gap.last gap.lo.now

-- some words between two, with the columns in which these two enter the rows
pub record IsPart (p : Strip) (gap : Gap) : Type 0 where
  pub order : gap.first < gap.last
  pub last : gap.last + 2 ≤ 2 * rows p
  pub hi : length gap.hi.now ≡ 2 * rows p + 1
  pub lo : length gap.lo.now ≡ 2 * rows p + 1
  pub above : ℕ
  pub first_below : above ≤ gap.first
  pub from : IsPathOf (arcs p) (rows p) (cols p) above gap.hi.now
  pub below : ℕ
  pub last_above : gap.last ≤ below
  pub to : IsPathOf (arcs p) (rows p) (cols p) below gap.lo.now

-- the places between two words
abbrev pub area_between : ℕ → List ℕ → List ℕ → ℕ → ℕ → ℕ
area_between m lo hi q q' = area (bound_at lo) (last_at hi) (start_of q) (end_of m q' + 1 - start_of q)

-- the place of the first of the least numbers of a list
pub record IsFirstLeast (xs : List ℕ) (i : ℕ) : Type 0 where
  pub within : i < length xs
  pub least : (k : ℕ) → k < length xs → slice_index xs i ≤ slice_index xs k
  pub first : (k : ℕ) → k < i → slice_index xs i < slice_index xs k
