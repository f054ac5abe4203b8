-- The definitions at worked examples: a square with a hole, a ring round an island, and holes that continue without
-- their parent.
use Rattle.std.proofs.Common.{◌≡◌, ℕ, None, Some, List, [], ◌∷◌, pos, refl}
use Rattle.fku_types.specs.Points.{square}
use Rattle.fku_types.specs.declared.points.Point.{Point}
use Rattle.fku_types.specs.declared.rules.PairRule.TheVariants.{Overlap}
use Rattle.plane_geom.specs.Lengths.{distance_square}
use Rattle.plane_geom.specs.Nesting.{is_inside}
use Rattle.section_core.specs.Parts.{span, Spot, ContourParts, Parts}
use Rattle.correspondence.specs.Nesting.{depth, depths, ring_from, oriented}
use Rattle.ring_polygons.specs.Composites.{least_bridge, composite}
use Rattle.ring_polygons.specs.Caps.{is_ear, places_by}
use Rattle.section_pairs.specs.Rings.{rings_at}
use Rattle.ring_caps.specs.GroupCaps.{group_cap, group_folded, area_in}
use Rattle.ring_caps.specs.Groups.{parent, parents, side_groups}
use Rattle.ring_caps.specs.RingSurfaces.{ring_triangles, ring_folded, group_sizes}

abbrev at : ℕ → ℕ → Point
at x y = record { x = pos x; y = pos y; z = pos 0 }

abbrev box : ℕ → ℕ → List Point
box near far = at near near ∷ at far near ∷ at far far ∷ at near far ∷ []

-- squares in one another, from the outside, from the inside, and two islands in a hole
abbrev nested : List (List Point)
nested = box 0 70 ∷ box 10 60 ∷ box 20 50 ∷ []

abbrev inside_first : List (List Point)
inside_first = box 20 50 ∷ box 10 60 ∷ box 0 70 ∷ []

abbrev islands : List (List Point)
islands = box 0 90 ∷ box 10 80 ∷ box 20 40 ∷ box 50 70 ∷ []

all_depths : (depths nested ≡ 0 ∷ 1 ∷ 2 ∷ []) × (depths inside_first ≡ 2 ∷ 1 ∷ 0 ∷ [])
    × (depths islands ≡ 0 ∷ 1 ∷ 2 ∷ 2 ∷ [])
unfolding depth is_inside
all_depths = (refl, refl, refl)

all_parents : (parents nested ≡ None ∷ Some 0 ∷ None ∷ []) × (parents inside_first ≡ None ∷ Some 2 ∷ None ∷ [])
    × (parents islands ≡ None ∷ Some 0 ∷ None ∷ None ∷ [])
unfolding parent depth is_inside
all_parents = (refl, refl, refl)

-- if all end, a hole belongs to its parent's group, and an island begins a group; groups are in the order of those that
-- begin them
whole : (side_groups nested [] ≡ (0 ∷ 1 ∷ []) ∷ (2 ∷ []) ∷ [])
    × (side_groups inside_first [] ≡ (0 ∷ []) ∷ (2 ∷ 1 ∷ []) ∷ [])
    × (side_groups islands [] ≡ (0 ∷ 1 ∷ []) ∷ (2 ∷ []) ∷ (3 ∷ []) ∷ [])
unfolding parent depth is_inside
whole = (refl, refl, refl)

-- if the parent goes on, or the hole
parted : (side_groups nested (0 ∷ []) ≡ (1 ∷ []) ∷ (2 ∷ []) ∷ [])
    × (side_groups nested (1 ∷ []) ≡ (0 ∷ []) ∷ (2 ∷ []) ∷ []) × (side_groups nested (0 ∷ 1 ∷ 2 ∷ []) ≡ [])
unfolding parent depth is_inside
parted = (refl, refl, refl)

-- ---- a section with one ring
abbrev spots : ℕ → ℕ → List Spot
spots near far = (pos near, pos near) ∷ (pos far, pos near) ∷ (pos far, pos far) ∷ (pos near, pos far) ∷ []

abbrev contour : ℕ → List Spot → ContourParts
contour name points = record { name = name ∷ []; count = pos 4; points = points }

abbrev ring : Parts
ring = record {
  cost = span;
  rule = Overlap;
  sections =
      record { z = pos 0; contours = contour 111 (spots 0 30) ∷ contour 104 (spots 10 20) ∷ [] } ∷ [];
  links = [];
}

joined : (composite (rings_at ring 0)).ids ≡ 0 ∷ 4 ∷ 7 ∷ 6 ∷ 5 ∷ 4 ∷ 0 ∷ 1 ∷ 2 ∷ 3 ∷ []
unfolding oriented ring_from depth is_inside least_bridge distance_square square
joined = refl

capped : (group_cap (rings_at ring 0) ≡ (3 ∷ 0 ∷ 4 ∷ []) ∷ (3 ∷ 4 ∷ 7 ∷ []) ∷ (3 ∷ 7 ∷ 6 ∷ []) ∷ (5 ∷ 4 ∷ 0 ∷ [])
    ∷ (5 ∷ 0 ∷ 1 ∷ []) ∷ (6 ∷ 5 ∷ 1 ∷ []) ∷ (6 ∷ 1 ∷ 2 ∷ []) ∷ (6 ∷ 2 ∷ 3 ∷ []) ∷ [])
    × (group_folded (rings_at ring 0) ≡ 0) × (area_in (rings_at ring 0) ≡ pos 1600)
unfolding oriented ring_from depth is_inside least_bridge distance_square square is_ear places_by
capped = (refl, refl, refl)

-- its bottom cap turned over, and its top cap
surface : (ring_triangles ring [] [] ≡
    (3 ∷ 4 ∷ 0 ∷ []) ∷ (3 ∷ 7 ∷ 4 ∷ []) ∷ (3 ∷ 6 ∷ 7 ∷ []) ∷ (5 ∷ 0 ∷ 4 ∷ []) ∷ (5 ∷ 1 ∷ 0 ∷ []) ∷ (6 ∷ 1 ∷ 5 ∷ [])
    ∷ (6 ∷ 2 ∷ 1 ∷ []) ∷ (6 ∷ 3 ∷ 2 ∷ [])
    ∷ (3 ∷ 0 ∷ 4 ∷ []) ∷ (3 ∷ 4 ∷ 7 ∷ []) ∷ (3 ∷ 7 ∷ 6 ∷ []) ∷ (5 ∷ 4 ∷ 0 ∷ []) ∷ (5 ∷ 0 ∷ 1 ∷ []) ∷ (6 ∷ 5 ∷ 1 ∷ [])
    ∷ (6 ∷ 1 ∷ 2 ∷ []) ∷ (6 ∷ 2 ∷ 3 ∷ []) ∷ [])
    × (ring_folded ring [] ≡ 0) × (group_sizes ring [] ≡ (1, 10) ∷ (1, 10) ∷ [])
unfolding parent oriented ring_from depth is_inside least_bridge distance_square square is_ear places_by
surface = (refl, refl, refl)
