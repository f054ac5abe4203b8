-- The volume of a worked surface, by computation.
use Rattle.std.proofs.Common.{◌≡◌, ℕ, pos, negsuc, [], ◌∷◌, refl}
use Rattle.fku_types.specs.declared.points.Point.{Point}
use Rattle.plane_geom.specs.Rings.{origin}
use Rattle.triangle_meshes.specs.Meshes.{Surface}
use Rattle.triangle_meshes.specs.Volumes.{seen_from, determinant, six_volume}

-- the surface of two squares, one above the other
abbrev squares : Surface
squares = record {
  vertices = record { x = pos 0; y = pos 0; z = pos 0 } ∷ record { x = pos 10; y = pos 0; z = pos 0 }
      ∷ record { x = pos 10; y = pos 10; z = pos 0 } ∷ record { x = pos 0; y = pos 10; z = pos 0 }
      ∷ record { x = pos 0; y = pos 0; z = pos 10 } ∷ record { x = pos 10; y = pos 0; z = pos 10 }
      ∷ record { x = pos 10; y = pos 10; z = pos 10 } ∷ record { x = pos 0; y = pos 10; z = pos 10 } ∷ [];
  parts = ((3 ∷ 1 ∷ 0 ∷ []) ∷ (1 ∷ 3 ∷ 2 ∷ []) ∷ (0 ∷ 1 ∷ 4 ∷ []) ∷ (5 ∷ 4 ∷ 1 ∷ []) ∷ (1 ∷ 2 ∷ 5 ∷ [])
      ∷ (6 ∷ 5 ∷ 2 ∷ []) ∷ (2 ∷ 3 ∷ 6 ∷ []) ∷ (7 ∷ 6 ∷ 3 ∷ []) ∷ (3 ∷ 0 ∷ 7 ∷ []) ∷ (4 ∷ 7 ∷ 0 ∷ []) ∷ (7 ∷ 4 ∷ 5 ∷ [])
      ∷ (5 ∷ 6 ∷ 7 ∷ []) ∷ []) ∷ [];
}

pub squares-about_the_origin : six_volume squares origin ≡ pos 6000
squares-about_the_origin = refl

pub squares-about_a_point : six_volume squares (record { x = pos 7; y = negsuc 2; z = pos 5 }) ≡ pos 6000
squares-about_a_point = refl

-- its first triangle alone, which is not closed: 0 about the origin; twice its area is -100, and it lies at -5 as seen
-- from the point
abbrev one : Surface
one = record { vertices = squares.vertices; parts = ((3 ∷ 1 ∷ 0 ∷ []) ∷ []) ∷ [] }

pub one-about_the_origin : six_volume one origin ≡ pos 0
one-about_the_origin = refl

pub one-about_a_point : six_volume one (record { x = pos 7; y = negsuc 2; z = pos 5 }) ≡ pos 500
one-about_a_point = refl

-- a point as seen from another, and the determinant of the three unit vectors
abbrev unit : ℕ → ℕ → ℕ → Point
unit x y z = record { x = pos x; y = pos y; z = pos z }

seen : seen_from (record { x = pos 7; y = negsuc 2; z = pos 5 }) (unit 10 0 1)
    ≡ record { x = pos 3; y = pos 3; z = negsuc 3 }
seen = refl

units : (determinant (unit 1 0 0) (unit 0 1 0) (unit 0 0 1) ≡ pos 1)
    × (determinant (unit 0 1 0) (unit 1 0 0) (unit 0 0 1) ≡ negsuc 0)
    × (determinant (unit 1 2 3) (unit 4 5 6) (unit 7 8 10) ≡ negsuc 2)
units = (refl, refl, refl)
