-- Triangles that cross, and triangles that touch, by computation.
use Rattle.std.proofs.Common.{◌≡◌, ℕ, pos, negsuc, true, false, List, [], ◌∷◌, refl}
use Rattle.fku_types.specs.declared.points.Point.{Point}
use Rattle.mesh_measures.specs.declared.crossing.Corners.{Corners}
use Rattle.mesh_measures.specs.Turns.{turn}
use Rattle.mesh_measures.specs.Crossings.{passes, pierces, cross, part_corners, crossing_counts, crossing_pairs}

abbrev at : ℕ → ℕ → ℕ → Point
at x y z = record { x = pos x; y = pos y; z = pos z }

-- a point below the plane of the first triangle
abbrev below : ℕ → ℕ → Point
below x y = record { x = pos x; y = pos y; z = negsuc 0 }

abbrev floor : Corners
floor = record { a = at 0 0 0; b = at 4 0 0; c = at 0 4 0 }

-- six times the volume of a corner of a cube, as seen from either side, and of four points in one plane
corner : (turn (at 0 0 0) (at 1 0 0) (at 0 1 0) (at 0 0 1) ≡ pos 1)
    × (turn (at 0 0 0) (at 0 1 0) (at 1 0 0) (at 0 0 1) ≡ negsuc 0)
    × (turn (at 0 0 0) (at 4 0 0) (at 0 4 0) (at 1 1 0) ≡ pos 0)
unfolding turn
corner = (refl, refl, refl)

-- an upright edge over a place inside the floor passes through it; one over an edge or a corner of the floor or outside
-- it does not, and one that ends on it does not
through : (passes (below 1 1) (at 1 1 1) floor ≡ true) × (passes (at 1 1 1) (below 1 1) floor ≡ true)
    × (passes (below 2 0) (at 2 0 1) floor ≡ false) × (passes (below 0 0) (at 0 0 1) floor ≡ false)
    × (passes (below 3 3) (at 3 3 1) floor ≡ false) × (passes (at 1 1 0) (at 1 1 1) floor ≡ false)
unfolding passes turn
through = (refl, refl, refl, refl, refl, refl)

-- an upright triangle that passes through the floor, one that stands on it, and one that lies in it
abbrev upright : Corners
upright = record { a = below 1 1; b = at 1 1 1; c = at 9 9 1 }

abbrev standing : Corners
standing = record { a = at 1 1 0; b = at 1 1 1; c = at 9 9 1 }

abbrev lying : Corners
lying = record { a = at 1 1 0; b = at 2 1 0; c = at 1 2 0 }

pairs : (cross floor upright ≡ true) × (cross upright floor ≡ true) × (cross floor standing ≡ false)
    × (cross floor lying ≡ false) × (cross floor floor ≡ false)
unfolding cross pierces passes turn
pairs = (refl, refl, refl, refl, refl)

-- a floor that two upright triangles cross, which do not cross each other, and one that stands on it
abbrev vertices : List Point
vertices = at 0 0 0 ∷ at 4 0 0 ∷ at 0 4 0 ∷ below 1 1 ∷ at 1 1 1 ∷ at 9 9 1 ∷ below 2 1 ∷ at 2 1 1 ∷ at 9 1 1 ∷ at 1 1 0
    ∷ []

abbrev part : List Corners
part = part_corners vertices ((0 ∷ 1 ∷ 2 ∷ []) ∷ (3 ∷ 4 ∷ 5 ∷ []) ∷ (6 ∷ 7 ∷ 8 ∷ []) ∷ (9 ∷ 4 ∷ 5 ∷ []) ∷ [])

counted : (crossing_counts part ≡ 2 ∷ 1 ∷ 1 ∷ 0 ∷ []) × (crossing_pairs part ≡ 2)
unfolding cross pierces passes turn
counted = (refl, refl)
