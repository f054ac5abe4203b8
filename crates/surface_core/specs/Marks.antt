-- Marks of the contours of a section.
use Rattle.std.specs.Prelude.{◌≡◌, ℕ, ◌<◌, ◌||◌, not, Bool, false, if◌then◌else◌, List, [], ◌∷◌, length, filter, slice_index_or}
use Rattle.std.specs.List.{range_with_len}
use Rattle.plane_geom.specs.Rings.{RingView}
use Rattle.correspondence.specs.Places.{has}
use Rattle.section_pairs.specs.Rings.{pick}

-- n marks, set exactly at some places
pub record AreSetAt (marks : List Bool) (n : ℕ) (places : List ℕ) : Type 0 where
  pub count : length marks ≡ n
  pub set : (k : ℕ) → k < n → slice_index_or marks k false ≡ has k places

-- the marks of some places are set, and all others stay
pub record Marks (old new : List Bool) (places : List ℕ) : Type 0 where
  pub count : length new ≡ length old
  pub set : (k : ℕ) → k < length old → slice_index_or new k false ≡ (slice_index_or old k false || has k places)

-- a ring without a mark
abbrev pub kept : Bool → RingView → List RingView
kept marked ring = if marked then [] else ring ∷ []

-- the rings without a mark, in file order
abbrev pub unmarked : List RingView → List Bool → List RingView
unmarked rings marks = pick rings (filter (λ k. not (slice_index_or marks k false)) (range_with_len 0 (length rings)))
