-- Pairs of composite contours as contracts see them.
use Rattle.std.specs.Prelude.{◌≡◌, ℕ, ◌+◌, ◌≤◌, ◌<◌, List, [], ◌∷◌, ◌++◌, length, map, slice_index_or}
use Rattle.std.specs.List.{flat_map}
use Rattle.fku_types.specs.declared.limits.TheConstants.{MAX_COMPOSITE_VERTICES}
use Rattle.fku_types.specs.declared.rules.CostRule.{CostRule}
use Rattle.plane_geom.specs.Rings.{RingView}
use Rattle.strip_graph.specs.Strips.{Strip}
use Rattle.section_core.specs.Parts.{Parts}
use Rattle.section_core.specs.Costs.{cost_rule}
use Rattle.correspondence.specs.Components.{Members}
use Rattle.correspondence.specs.Gaps.{AreGapMembers}
use Rattle.section_pairs.specs.declared.gap_pairs.GapPair.{GapPair}
use Rattle.section_pairs.specs.Rings.{rings_at, composite_at}

-- a pair: its strip, its gap, and the places of its component's contours below and above
pub record PairParts : Type 0 where
  pub strip : Strip
  pub gap : ℕ
  pub below : List ℕ
  pub above : List ℕ

abbrev pub pair_parts : GapPair → PairParts
pair_parts p = record { strip = p.pair; gap = p.gap; below = p.below.items; above = p.above.items }

-- the components of each gap, from the first gap on
pub record AreGaps (S : Parts) (gaps : List (List Members)) : Type 0 where
  pub count : length gaps + 1 ≡ length S.sections
  pub components : (g : ℕ) → g < length gaps → AreGapMembers S g (slice_index_or gaps g [])

-- the pair of a component of gap g, between the rings of the section below and those of the section above
abbrev pub pair_between : CostRule → List RingView → List RingView → ℕ → Members → PairParts
pair_between cost low high g c = record {
  strip = record {
    low = (composite_at low c.below).points;
    low_ids = (composite_at low c.below).ids;
    high = (composite_at high c.above).points;
    high_ids = (composite_at high c.above).ids;
    cost = cost;
  };
  gap = g;
  below = c.below;
  above = c.above;
}

-- the pair of a component of the gap above section g
abbrev pub pair_of : Parts → ℕ → Members → PairParts
pair_of S g c = pair_between (cost_rule S.cost) (rings_at S g) (rings_at S (g + 1)) g c

-- the pairs of all components, from gap g on
abbrev pub pairs_from : Parts → ℕ → List (List Members) → List PairParts
pairs_from S g [] = []
pairs_from S g (cs ∷ gaps) = map (pair_of S g) cs ++ pairs_from S (g + 1) gaps

-- the sides of a component's pair: the section, counted from 1, and how many vertices the composite has there
abbrev pub sides_between : List RingView → List RingView → ℕ → Members → List (ℕ × ℕ)
sides_between low high g c =
    (g + 1, length (composite_at low c.below).points) ∷ (g + 2, length (composite_at high c.above).points) ∷ []

abbrev pub sides_of : Parts → ℕ → Members → List (ℕ × ℕ)
sides_of S g c = sides_between (rings_at S g) (rings_at S (g + 1)) g c

abbrev pub sides_from : Parts → ℕ → List (List Members) → List (ℕ × ℕ)
sides_from S g [] = []
sides_from S g (cs ∷ gaps) = flat_map (sides_of S g) cs ++ sides_from S (g + 1) gaps

-- a composite has at most MAX_COMPOSITE_VERTICES vertices
abbrev pub IsShort : ℕ × ℕ → Type 0
IsShort side = side.1 ≤ MAX_COMPOSITE_VERTICES
