-- Joined meshes, at two triangles.
use Rattle.std.proofs.Common.{◌≡◌, ℕ, [], ◌∷◌, pos, refl, arith}
use Rattle.fku_types.specs.declared.points.Point.{Point}
use Rattle.triangle_meshes.specs.Meshes.{Surface, IsValid}
use Rattle.triangle_meshes.specs.Joined.{raised_triangle, raised, IsBelow, joined}
use Rattle.triangle_meshes.proofs.Validity.{valid_from_test}

abbrev corner : ℕ → ℕ → ℕ → Point
corner x y z = record { x = pos x; y = pos y; z = pos z }

abbrev below : Surface
below = record { vertices = corner 0 0 0 ∷ corner 5 0 0 ∷ corner 0 5 0 ∷ []; parts = ((0 ∷ 1 ∷ 2 ∷ []) ∷ []) ∷ [] }

abbrev above : Surface
above = record {
  vertices = corner 0 0 9 ∷ corner 5 0 9 ∷ corner 0 5 9 ∷ [];
  parts =
      ((0 ∷ 1 ∷ 2 ∷ []) ∷ []) ∷ ((2 ∷ 1 ∷ 0 ∷ []) ∷ []) ∷ [];
}

-- the ids of a triangle, of a part and of parts are raised, and nothing else
by_three : (raised_triangle 3 (0 ∷ 1 ∷ 2 ∷ []) ≡ 3 ∷ 4 ∷ 5 ∷ [])
    × (raised 3 (((0 ∷ 1 ∷ 2 ∷ []) ∷ []) ∷ ((2 ∷ 1 ∷ 0 ∷ []) ∷ []) ∷ []) ≡ ((3 ∷ 4 ∷ 5 ∷ []) ∷ [])
    ∷ ((5 ∷ 4 ∷ 3 ∷ []) ∷ []) ∷ [])
by_three = (refl, refl)

-- an id raised to 2,097,151 is one of a valid mesh
last_id : IsBelow 2097149 (0 ∷ 1 ∷ 2 ∷ [])
last_id = (omega arith, (omega arith, (omega arith, tt)))

-- the vertices are those of one mesh after another, the ids of the second are 3, 4 and 5, and each part stays one part
as_one : joined (below ∷ above ∷ []) ≡ record {
  vertices = corner 0 0 0 ∷ corner 5 0 0 ∷ corner 0 5 0 ∷ corner 0 0 9 ∷ corner 5 0 9 ∷ corner 0 5 9 ∷ [];
  parts = ((0 ∷ 1 ∷ 2 ∷ []) ∷ []) ∷ ((3 ∷ 4 ∷ 5 ∷ []) ∷ []) ∷ ((5 ∷ 4 ∷ 3 ∷ []) ∷ []) ∷ [];
}
as_one = refl

-- the joined triangles are a valid mesh
valid : IsValid (joined (below ∷ above ∷ []))
valid = valid_from_test (joined (below ∷ above ∷ [])) refl
