-- Two equal squares, one above the other, as a whole: the solution of their one pair, and their surface.
use Rattle.std.proofs.Common.{◌≡◌, ℕ, zero, suc, ◌<◌, [], ◌∷◌, pos, refl, arith}
use Rattle.std.specs.Prelude.{slice_index_or}
use Rattle.plane_geom.specs.Nesting.{is_inside}
use Rattle.correspondence.specs.Nesting.{depth, ring_from, oriented}
use Rattle.ring_polygons.specs.Caps.{is_ear, places_by}
use Rattle.strip_graph.specs.Strips.{Strip, arcs}
use Rattle.row_paths.specs.Solutions.{Solution, Solves}
use Rattle.row_paths.proofs.Worked.{squares_solution, squares_solved}
use Rattle.pair_pool.specs.Solvers.{SolvesEach}
use Rattle.triangle_meshes.specs.Meshes.{Surface, surface_of}
use Rattle.section_pairs.proofs.Worked.{squares}
use Rattle.section_pairs.proofs.WorkedSquares.{corner, pair, squares_paired}
use Rattle.surface_core.specs.declared.surfaces.Built.{Built}
use Rattle.surface_core.specs.Surfaces.{IsSurface, IsBuilt}
use Rattle.surface_core.proofs.StripSteps.{are_least}

pub pair_solved : SolvesEach (pair.strip ∷ []) (squares_solution ∷ [])
unfolding arcs
pair_solved = record { count = refl; each = each }
  where
    each : (k : ℕ) (p : Strip) (s : Solution) → k < 1
        → Solves (slice_index_or (pair.strip ∷ []) k p) (slice_index_or (squares_solution ∷ []) k s)
    each zero p s l = record { chosen = squares_solved.chosen; cost = squares_solved.cost }
    each (suc k) p s l = absurd (omega (arith, l))

-- ---- their surface

abbrev mesh : Surface
mesh = record {
  vertices = corner 0 0 0 ∷ corner 10 0 0 ∷ corner 10 10 0 ∷ corner 0 10 0 ∷ corner 0 0 10 ∷ corner 10 0 10
      ∷ corner 10 10 10 ∷ corner 0 10 10 ∷ [];
  parts = ((3 ∷ 1 ∷ 0 ∷ []) ∷ (1 ∷ 3 ∷ 2 ∷ []) ∷ (0 ∷ 1 ∷ 4 ∷ []) ∷ (5 ∷ 4 ∷ 1 ∷ []) ∷ (1 ∷ 2 ∷ 5 ∷ [])
      ∷ (6 ∷ 5 ∷ 2 ∷ []) ∷ (2 ∷ 3 ∷ 6 ∷ []) ∷ (7 ∷ 6 ∷ 3 ∷ []) ∷ (3 ∷ 0 ∷ 7 ∷ []) ∷ (4 ∷ 7 ∷ 0 ∷ []) ∷ (7 ∷ 4 ∷ 5 ∷ [])
      ∷ (5 ∷ 6 ∷ 7 ∷ []) ∷ []) ∷ [];
}

surface : IsSurface squares (pair ∷ []) (squares_solution ∷ []) mesh
unfolding oriented ring_from depth is_inside is_ear places_by
surface = record { vertices = refl; one_part = refl }

-- the surface of two squares has that mesh, one pair, the cost 1,200 and no folded triangle
pub squares_built : (b : Built) → surface_of b.mesh ≡ mesh → b.pairs ≡ 1 → b.cost ≡ pos 1200 → b.folded ≡ 0
    → IsBuilt squares b
unfolding oriented ring_from depth is_inside is_ear places_by
squares_built b m p c f = record {
  pairs = pair ∷ [];
  solutions = squares_solution ∷ [];
  are_pairs = squares_paired;
  chosen = pair_solved;
  least = are_least (pair.strip ∷ []) (squares_solution ∷ []) pair_solved;
  surface = rw m surface;
  pair_count = p;
  cost = c;
  folded = f;
}
