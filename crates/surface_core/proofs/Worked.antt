-- The definitions at worked examples: squares above one another, and one under two.
use Rattle.std.proofs.Common.{◌≡◌, ℕ, true, false, List, [], ◌∷◌, length, map, pos, refl}
use Rattle.fku_types.specs.Points.{square}
use Rattle.fku_types.specs.declared.rules.CostRule.TheVariants.{Span}
use Rattle.plane_geom.specs.Rings.{RingView}
use Rattle.plane_geom.specs.Lengths.{distance_square}
use Rattle.plane_geom.specs.Nesting.{is_inside}
use Rattle.section_core.specs.Parts.{Parts}
use Rattle.correspondence.specs.Nesting.{depth, ring_from, oriented}
use Rattle.ring_polygons.specs.Composites.{least_bridge}
use Rattle.ring_polygons.specs.Caps.{is_ear, places_by}
use Rattle.ring_polygons.specs.declared.faces.Face.TheVariants.{Below, Above}
use Rattle.strip_graph.specs.declared.tilings.Step.{Step}
use Rattle.strip_graph.specs.declared.tilings.Step.TheVariants.{V, H}
use Rattle.row_paths.specs.Solutions.{Solution}
use Rattle.section_pairs.specs.Pairs.{PairParts, pairs_from}
use Rattle.section_pairs.proofs.Worked.{box, contour, at, stack, squares, branching, straight, branch}
use Rattle.surface_core.specs.Marks.{unmarked}
use Rattle.surface_core.specs.Surfaces.{joined_on, others, surface_triangles, surface_folded, strips_in, points_in}

-- two equal squares with a section without contours between them
abbrev empty_between : Parts
empty_between = stack (at 0 (contour 97 (box 0 10) ∷ []) ∷ at 10 [] ∷ at 20 (contour 98 (box 0 10) ∷ []) ∷ [])

abbrev solution : ℕ → List Step → Solution
solution cost word = record { row = 0; word = word; cost = pos cost }

abbrev by_turns : Solution
by_turns = solution 1200 (V ∷ H ∷ V ∷ H ∷ V ∷ H ∷ V ∷ H ∷ [])

abbrev round_two : Solution
round_two = solution 3300 (H ∷ V ∷ H ∷ H ∷ V ∷ H ∷ H ∷ H ∷ V ∷ H ∷ H ∷ H ∷ V ∷ H ∷ [])

-- which contours are in pairs of the gaps above and below a section
abbrev pair_in : ℕ → List ℕ → List ℕ → PairParts
pair_in gap below above = record {
  strip = record { low = []; low_ids = []; high = []; high_ids = []; cost = Span };
  gap = gap;
  below = below;
  above = above;
}

abbrev gaps : List PairParts
gaps = pair_in 0 (0 ∷ []) (0 ∷ 2 ∷ []) ∷ pair_in 0 (1 ∷ []) (3 ∷ []) ∷ pair_in 1 (2 ∷ []) (1 ∷ []) ∷ []

joined : (joined_on Above gaps 0 ≡ 0 ∷ 1 ∷ []) × (joined_on Above gaps 1 ≡ 2 ∷ []) × (joined_on Below gaps 0 ≡ [])
    × (joined_on Below gaps 1 ≡ 0 ∷ 2 ∷ 3 ∷ []) × (joined_on Below gaps 2 ≡ 1 ∷ [])
joined = (refl, refl, refl, refl, refl)

abbrev ring : ℕ → RingView
ring id = record { points = []; ids = id ∷ [] }

left : (others (ring 5 ∷ ring 6 ∷ ring 7 ∷ []) (1 ∷ []) ≡ ring 5 ∷ ring 7 ∷ [])
    × (unmarked (ring 5 ∷ ring 6 ∷ []) (true ∷ false ∷ []) ≡ ring 6 ∷ [])
left = (refl, refl)

-- a bottom cap, a strip and a top cap
squares_triangles : surface_triangles squares (pairs_from squares 0 straight) (by_turns ∷ []) ≡ (3 ∷ 1 ∷ 0 ∷ [])
    ∷ (1 ∷ 3 ∷ 2 ∷ []) ∷ (0 ∷ 1 ∷ 4 ∷ []) ∷ (5 ∷ 4 ∷ 1 ∷ []) ∷ (1 ∷ 2 ∷ 5 ∷ []) ∷ (6 ∷ 5 ∷ 2 ∷ []) ∷ (2 ∷ 3 ∷ 6 ∷ [])
    ∷ (7 ∷ 6 ∷ 3 ∷ []) ∷ (3 ∷ 0 ∷ 7 ∷ []) ∷ (4 ∷ 7 ∷ 0 ∷ []) ∷ (7 ∷ 4 ∷ 5 ∷ []) ∷ (5 ∷ 6 ∷ 7 ∷ []) ∷ []
unfolding oriented ring_from depth is_inside least_bridge distance_square square is_ear places_by
squares_triangles = refl

-- both caps of each square
apart_triangles : surface_triangles empty_between [] [] ≡ (3 ∷ 1 ∷ 0 ∷ []) ∷ (1 ∷ 3 ∷ 2 ∷ []) ∷ (3 ∷ 0 ∷ 1 ∷ [])
    ∷ (1 ∷ 2 ∷ 3 ∷ []) ∷ (7 ∷ 5 ∷ 4 ∷ []) ∷ (5 ∷ 7 ∷ 6 ∷ []) ∷ (7 ∷ 4 ∷ 5 ∷ []) ∷ (5 ∷ 6 ∷ 7 ∷ []) ∷ []
unfolding oriented ring_from depth is_inside is_ear places_by
apart_triangles = refl

-- one contour under two: their bridge is passed in both directions
branching_triangles : surface_triangles branching branch (round_two ∷ []) ≡ (3 ∷ 1 ∷ 0 ∷ []) ∷ (1 ∷ 3 ∷ 2 ∷ [])
    ∷ (5 ∷ 4 ∷ 0 ∷ []) ∷ (0 ∷ 1 ∷ 5 ∷ []) ∷ (8 ∷ 5 ∷ 1 ∷ []) ∷ (9 ∷ 8 ∷ 1 ∷ []) ∷ (1 ∷ 2 ∷ 9 ∷ []) ∷ (10 ∷ 9 ∷ 2 ∷ [])
    ∷ (11 ∷ 10 ∷ 2 ∷ []) ∷ (8 ∷ 11 ∷ 2 ∷ []) ∷ (2 ∷ 3 ∷ 8 ∷ []) ∷ (5 ∷ 8 ∷ 3 ∷ []) ∷ (6 ∷ 5 ∷ 3 ∷ []) ∷ (7 ∷ 6 ∷ 3 ∷ [])
    ∷ (3 ∷ 0 ∷ 7 ∷ []) ∷ (4 ∷ 7 ∷ 0 ∷ []) ∷ (7 ∷ 4 ∷ 5 ∷ []) ∷ (5 ∷ 6 ∷ 7 ∷ []) ∷ (11 ∷ 8 ∷ 9 ∷ []) ∷ (9 ∷ 10 ∷ 11 ∷ [])
    ∷ []
unfolding oriented ring_from depth is_inside least_bridge distance_square square is_ear places_by
branching_triangles = refl

counted : (surface_folded empty_between [] ≡ 0) × (length (strips_in gaps) ≡ 3)
    × (map (λ s. length (points_in s)) branching.sections ≡ 4 ∷ 8 ∷ [])
unfolding oriented ring_from depth is_inside is_ear places_by
counted = (refl, refl, refl)
