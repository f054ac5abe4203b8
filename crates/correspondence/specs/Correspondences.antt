-- Which contours of neighbouring sections correspond.
use Rattle.std.specs.Prelude.{◌≡◌, ℕ, ◌+◌, ◌<◌, ◌%◌, ◌==◌, ◌&&◌, Bool, true, List, length, bytes_eq}
use Rattle.std.specs.List.{list_any}
use Rattle.fku_types.specs.declared.points.Point.{Point}
use Rattle.fku_types.specs.declared.rules.PairRule.{PairRule}
use Rattle.fku_types.specs.declared.rules.PairRule.TheVariants as rule
use Rattle.section_core.specs.Parts.{LinkParts, Parts}
use Rattle.correspondence.specs.Contours.{contour_at}
use Rattle.correspondence.specs.Nesting.{depth}
use Rattle.correspondence.specs.Outlines.{Layer, layer_at, name_in}
use Rattle.correspondence.specs.Overlaps.{Overlap}

-- both are even, or both odd
abbrev pub same_parity : ℕ → ℕ → Bool
same_parity d e = (d % 2) == (e % 2)

-- a link names these two, the lower one first
abbrev pub links_names : List ℕ → List ℕ → LinkParts → Bool
links_names one other l = bytes_eq one l.below && bytes_eq other l.above

-- the depths have equal parity, and the contours overlap
abbrev pub Alike : List (List Point) → List (List Point) → ℕ → ℕ → Type 0
Alike low high i j = (same_parity (depth low i) (depth high j) ≡ true) × Overlap (contour_at low i) (contour_at high j)

-- the condition of the pair rule on contour i of a section and contour j of the section above
abbrev pub Agree : PairRule → List LinkParts → Layer → Layer → ℕ → ℕ → Type 0
Agree rule.Overlap links low high i j = Alike low.outlines high.outlines i j
Agree rule.Links links low high i j = list_any (links_names (name_in low i) (name_in high j)) links ≡ true

-- contour i of section g and contour j of the section above correspond
pub record Correspond (S : Parts) (g i j : ℕ) : Type 0 where
  pub below : i < length (layer_at S g).outlines
  pub above : j < length (layer_at S (g + 1)).outlines
  pub agree : Agree S.rule S.links (layer_at S g) (layer_at S (g + 1)) i j
