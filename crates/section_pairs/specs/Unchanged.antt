-- Unchanged sections and gaps, and their pairs with other vertex numbers.
use Rattle.std.specs.Prelude.{◌≡◌, ℕ, ◌+◌, ◌-◌, ◌<◌, ◌≤◌, List, map, length, drop, slice_index_or, All}
use Rattle.std.specs.List.{flat_map}
use Rattle.fku_types.specs.declared.limits.TheConstants.{MAX_VERTICES}
use Rattle.section_core.specs.Parts.{Parts}
use Rattle.correspondence.specs.Outlines.{layer_at, section_at}
use Rattle.correspondence.specs.Components.{Members}
use Rattle.correspondence.specs.Gaps.{AreGapMembers}
use Rattle.section_pairs.specs.declared.moved_pairs.Shift.{Shift}
use Rattle.section_pairs.specs.Rings.{first_vertex}
use Rattle.section_pairs.specs.Pairs.{PairParts, pair_of, sides_of, pairs_from, AreGaps, IsShort}

-- two lists have the same item at a place
pub record IsSameAt {X : Type 0} (xs ys : List X) (k : ℕ) : Type 0 where
  pub there : k < length xs
  pub also_there : k < length ys
  pub same : (d : X) → slice_index_or xs k d ≡ slice_index_or ys k d

-- the gap above section g has the same contours on both sides, under the same rules and links
pub record IsSameGap (S T : Parts) (g : ℕ) : Type 0 where
  pub cost : S.cost ≡ T.cost
  pub rule : S.rule ≡ T.rule
  pub links : S.links ≡ T.links
  pub there : g + 1 < length S.sections
  pub low : layer_at S g ≡ layer_at T g
  pub high : layer_at S (g + 1) ≡ layer_at T (g + 1)

-- the sections beside the gap are there, at the heights that they had
pub record HasSameSections (S T : Parts) (g : ℕ) : Type 0 where
  pub there : g + 1 < length T.sections
  pub low : (section_at S g).z ≡ (section_at T g).z
  pub high : (section_at S (g + 1)).z ≡ (section_at T (g + 1)).z

-- the numbers of the first vertices of the sections beside a gap, before and now
pub record AreShifts (S T : Parts) (g : ℕ) (low high : Shift) : Type 0 where
  pub low_from : low.from ≡ first_vertex S g
  pub low_to : low.to ≡ first_vertex T g
  pub high_from : high.from ≡ first_vertex S (g + 1)
  pub high_to : high.to ≡ first_vertex T (g + 1)

-- the number of a vertex whose section now begins with another number
abbrev pub moved_id : Shift → ℕ → ℕ
moved_id shift id = (id - shift.from) + shift.to

-- the number is one of the section, and its new number is in range
abbrev pub CanMove : Shift → ℕ → Type 0
CanMove shift id = (shift.from ≤ id) × ((id - shift.from) + shift.to < MAX_VERTICES)

-- a pair with other vertex numbers
abbrev pub moved_pair : Shift → Shift → PairParts → PairParts
moved_pair low high p = record {
  strip = record {
    low = p.strip.low;
    low_ids = map (moved_id low) p.strip.low_ids;
    high = p.strip.high;
    high_ids = map (moved_id high) p.strip.high_ids;
    cost = p.strip.cost;
  };
  gap = p.gap;
  below = p.below;
  above = p.above;
}

abbrev pub CanMovePair : Shift → Shift → PairParts → Type 0
CanMovePair low high p = All (CanMove low) p.strip.low_ids × All (CanMove high) p.strip.high_ids

-- these are the pairs of the components of gap g, and none has a composite that is too long
pub record AreGapPairs (S : Parts) (g : ℕ) (ps : List PairParts) : Type 0 where
  pub members : List Members
  pub are_members : AreGapMembers S g members
  pub pairs : ps ≡ map (pair_of S g) members
  pub short : All IsShort (flat_map (sides_of S g) members)

-- among the pairs of sections, those of gap g and of the gaps above it begin at a place
abbrev pub BeginAt : Parts → List PairParts → ℕ → ℕ → Type 0
BeginAt S ps g place =
    (gaps : List (List Members)) → AreGaps S gaps → ps ≡ pairs_from S 0 gaps
    → drop place ps ≡ pairs_from S g (drop g gaps)
