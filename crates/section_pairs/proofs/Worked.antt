-- The definitions at worked examples: squares above one another, one under two, and a square with a hole.
use Rattle.std.proofs.Common.{◌≡◌, ℕ, zero, suc, ◌<◌, List, [], ◌∷◌, length, map, pos, refl, arith}
use Rattle.std.specs.Prelude.{slice_index_or}
use Rattle.fku_types.specs.Points.{square}
use Rattle.fku_types.specs.declared.rules.PairRule.TheVariants.{Overlap}
use Rattle.fku_types.specs.declared.fault.Fault.TheVariants.{Composite, NoMemory}
use Rattle.plane_geom.specs.Rings.{RingView}
use Rattle.plane_geom.specs.Lengths.{distance_square}
use Rattle.plane_geom.specs.Nesting.{is_inside}
use Rattle.section_core.specs.Parts.{span, Spot, ContourParts, SectionParts, Parts}
use Rattle.section_core.specs.ValidSections.{section_of}
use Rattle.correspondence.specs.Nesting.{depth, ring_from, oriented}
use Rattle.ring_polygons.specs.Composites.{least_bridge}
use Rattle.correspondence.specs.Components.{Members}
use Rattle.section_pairs.specs.Rings.{vertices_in, first_vertex, rings_at, pick}
use Rattle.section_pairs.specs.Pairs.{PairParts, pairs_from, sides_from, IsShort}
use Rattle.section_pairs.specs.SectionFaults.{IsFirstFault, data_contours, names_in, HasLongSide}

abbrev pub box : ℕ → ℕ → List Spot
box left right = (pos left, pos 0) ∷ (pos right, pos 0) ∷ (pos right, pos 10) ∷ (pos left, pos 10) ∷ []

abbrev pub contour : ℕ → List Spot → ContourParts
contour name points = record { name = name ∷ []; count = pos 4; points = points }

abbrev pub at : ℕ → List ContourParts → SectionParts
at z contours = record { z = pos z; contours = contours }

abbrev pub stack : List SectionParts → Parts
stack sections = record { cost = span; rule = Overlap; sections = sections; links = [] }

-- two equal squares; and the same with the lower one listed clockwise
abbrev pub squares : Parts
squares = stack (at 0 (contour 97 (box 0 10) ∷ []) ∷ at 10 (contour 98 (box 0 10) ∷ []) ∷ [])

abbrev clockwise : Parts
clockwise = stack (at 0 (contour 97 ((pos 0, pos 0) ∷ (pos 0, pos 10) ∷ (pos 10, pos 10) ∷ (pos 10, pos 0) ∷ []) ∷ [])
    ∷ at 10 (contour 98 (box 0 10) ∷ []) ∷ [])

-- one contour under two
abbrev pub branching : Parts
branching = stack (at 0 (contour 97 (box 0 30) ∷ []) ∷ at 10 (contour 98 (box 0 10) ∷ contour 99 (box 20 30) ∷ []) ∷ [])

-- a square with a hole
abbrev nested : Parts
nested = stack (at 0 (contour 97 (box 0 30)
    ∷ contour 98 ((pos 10, pos 2) ∷ (pos 20, pos 2) ∷ (pos 20, pos 8) ∷ (pos 10, pos 8) ∷ []) ∷ []) ∷ [])

abbrev pub component : List ℕ → List ℕ → Members
component below above = record { below = below; above = above }

abbrev pub straight : List (List Members)
straight = (component (0 ∷ []) (0 ∷ []) ∷ []) ∷ []

abbrev under_two : List (List Members)
under_two = (component (0 ∷ []) (0 ∷ 1 ∷ []) ∷ []) ∷ []

-- vertices are numbered in file order
numbers : (map vertices_in branching.sections ≡ 4 ∷ 8 ∷ []) × (first_vertex branching 0 ≡ 0)
    × (first_vertex branching 1 ≡ 4) × (first_vertex branching 2 ≡ 12)
numbers = (refl, refl, refl, refl)

abbrev ids_at : Parts → ℕ → List (List ℕ)
ids_at S s = map (λ (r : RingView). r.ids) (rings_at S s)

-- outer contours turn counterclockwise, and holes clockwise
turned : (ids_at branching 1 ≡ (4 ∷ 5 ∷ 6 ∷ 7 ∷ []) ∷ (8 ∷ 9 ∷ 10 ∷ 11 ∷ []) ∷ [])
    × (ids_at clockwise 0 ≡ (0 ∷ 3 ∷ 2 ∷ 1 ∷ []) ∷ [])
    × (ids_at nested 0 ≡ (0 ∷ 1 ∷ 2 ∷ 3 ∷ []) ∷ (4 ∷ 7 ∷ 6 ∷ 5 ∷ []) ∷ [])
unfolding oriented ring_from depth is_inside
turned = (refl, refl, refl)

-- the pair of one contour under two, and its sides
abbrev pub branch : List PairParts
branch = pairs_from branching 0 under_two

abbrev ids_of : PairParts → List ℕ × List ℕ
ids_of p = (p.strip.low_ids, p.strip.high_ids)

branches : (map ids_of branch ≡ (0 ∷ 1 ∷ 2 ∷ 3 ∷ [], 4 ∷ 5 ∷ 8 ∷ 9 ∷ 10 ∷ 11 ∷ 8 ∷ 5 ∷ 6 ∷ 7 ∷ []) ∷ [])
    × (map (λ (p : PairParts). p.gap) branch ≡ 0 ∷ []) × (sides_from branching 0 under_two ≡ (1, 4) ∷ (2, 10) ∷ [])
unfolding oriented ring_from depth is_inside least_bridge distance_square square
branches = (refl, refl, refl)

-- a side of 4,096 vertices is not too long, and one of 4,097 is
limits : (IsShort (1, 4096)) × (IsShort (1, 4097) → ⊥) × (HasLongSide (2, 4097) (Composite 2 4097))
    × (HasLongSide (2, 4096) (Composite 2 4096) → ⊥) × (HasLongSide (2, 4097) (Composite 1 4097) → ⊥)
    × (HasLongSide (2, 4097) NoMemory → ⊥)
limits = (
  omega arith,
  (λ h. omega (arith, h)),
  (refl, refl, omega arith),
  (λ h. omega (arith, h.2)),
  (λ h. omega (arith, h.0)),
  λ h. h,
)

abbrev ring : ℕ → RingView
ring id = record { points = []; ids = id ∷ [] }

picked : pick (ring 5 ∷ ring 6 ∷ ring 7 ∷ []) (2 ∷ 0 ∷ []) ≡ ring 7 ∷ ring 5 ∷ []
picked = refl

names : map (λ s. names_in (section_of s)) branching.sections ≡ ((97 ∷ []) ∷ []) ∷ ((98 ∷ []) ∷ (99 ∷ []) ∷ []) ∷ []
names = refl

all_contours : length (data_contours (map section_of branching.sections)) ≡ 3
all_contours = refl

-- the first item with a fault is reported, and no later one
first_long : IsFirstFault IsShort HasLongSide ((1, 4) ∷ (2, 4097) ∷ (2, 5000) ∷ []) (Composite 2 4097)
first_long = record {
  before = (1, 4) ∷ [];
  item = (2, 4097);
  after = (2, 5000) ∷ [];
  split = refl;
  good_before = λ k d l. short k d l;
  has = (refl, refl, omega arith);
}
  where
    short : (k : ℕ) (d : ℕ × ℕ) → k < 1 → IsShort (slice_index_or ((1, 4) ∷ []) k d)
    short zero d l = omega arith
    short (suc k) d l = absurd (omega (arith, l))
