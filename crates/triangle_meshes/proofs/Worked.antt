-- The definitions of meshes at worked examples, by computation: the strip of two squares, one above the other.
use Rattle.std.proofs.Common.{◌≡◌, [], ◌∷◌, refl, arith}
use Rattle.plane_geom.specs.Rings.{IsClosed, edge_count}
use Rattle.strip_graph.specs.declared.tilings.Step.TheVariants.{V, H}
use Rattle.triangle_meshes.specs.Tiles.{tiles}

-- a tile over each edge of the lower ring, and one under each edge of the upper ring; rows and columns are counted
-- round
tiles_of_two_squares : tiles (0 ∷ 1 ∷ 2 ∷ 3 ∷ []) (4 ∷ 5 ∷ 6 ∷ 7 ∷ []) 0 0 (V ∷ H ∷ V ∷ H ∷ V ∷ H ∷ V ∷ H ∷ [])
    ≡ (0 ∷ 1 ∷ 4 ∷ []) ∷ (5 ∷ 4 ∷ 1 ∷ []) ∷ (1 ∷ 2 ∷ 5 ∷ []) ∷ (6 ∷ 5 ∷ 2 ∷ []) ∷ (2 ∷ 3 ∷ 6 ∷ []) ∷ (7 ∷ 6 ∷ 3 ∷ [])
    ∷ (3 ∷ 0 ∷ 7 ∷ []) ∷ (4 ∷ 7 ∷ 0 ∷ []) ∷ []
tiles_of_two_squares = refl

tiles_from_another_span : tiles (0 ∷ 1 ∷ 2 ∷ []) (3 ∷ 4 ∷ 5 ∷ []) 2 2 (H ∷ V ∷ []) ≡ (3 ∷ 5 ∷ 2 ∷ []) ∷ (2 ∷ 0 ∷ 3 ∷ [])
    ∷ []
tiles_from_another_span = refl

-- an edge is counted at each place where its second vertex follows its first; the first vertex follows the last
counts_of_edges : (edge_count ((0 ∷ 1 ∷ 2 ∷ []) ∷ (2 ∷ 0 ∷ 1 ∷ []) ∷ []) 2 0 ≡ 2)
    × (edge_count ((0 ∷ 1 ∷ 2 ∷ []) ∷ []) 0 2 ≡ 0)
counts_of_edges = (refl, refl)

-- a single triangle is open
open_triangle : IsClosed ((0 ∷ 1 ∷ 2 ∷ []) ∷ []) → ⊥
open_triangle closed = omega (arith, closed 0 1)
