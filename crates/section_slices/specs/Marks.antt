-- What the functions of this crate pass to one another.
use Rattle.std.specs.Prelude.{◌≡◌, ℕ, ◌++◌, ◌<◌, Bool, List, length, map, slice_index, codes, decimal, Vec}
use Rattle.std.specs.Global.{Global}
use Rattle.std.specs.List.{flat_map, range_with_len}
use Rattle.fku_types.specs.declared.points.Spot.{Spot as Place}
use Rattle.section_core.specs.declared.parts.Section.{Section}
use Rattle.section_core.specs.Parts.{LinkParts, Parts}
use Rattle.section_pairs.specs.Pairs.{PairParts}
use Rattle.section_slices.specs.Densified.{is_dense, AreLinksOfGaps}

-- for each section, whether the gap above it is dense
abbrev pub dense_gaps : Parts → List PairParts → List Bool
dense_gaps S pairs = map (is_dense S pairs) (range_with_len 0 (length S.sections))

-- the spots of the outlines that the code holds
abbrev pub outlines_of : List (Vec Place Global) → List (List Place)
outlines_of outlines = map (λ (v : Vec Place Global). v.items) outlines

-- the links are those of all gaps, gap by gap
pub record AreAllLinks (S : Parts) (pairs : List PairParts) (links : List LinkParts) : Type 0 where
  pub gaps : List (List LinkParts)
  pub are : AreLinksOfGaps S pairs gaps
  pub all : links ≡ flat_map (λ (ls : List LinkParts). ls) gaps

-- m and a number
abbrev pub numbered_name : ℕ → List ℕ
numbered_name n = codes "m" ++ decimal n

-- the point of a height at a spot
-- a pair has contours below and above, and the first of them are contours of these sections
pub record IsPairBetween (low high : Section) (p : PairParts) : Type 0 where
  pub some_below : 0 < length p.below
  pub some_above : 0 < length p.above
  pub below : slice_index p.below 0 < length low.contours.items
  pub above : slice_index p.above 0 < length high.contours.items
