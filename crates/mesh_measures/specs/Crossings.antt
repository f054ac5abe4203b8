-- Triangles that cross in space.
use Rattle.std.specs.Prelude.{ℕ, ◌+◌, Bool, ◌&&◌, ◌||◌, List, [], ◌∷◌, ℤ, pos, int_lt, map, count_by, slice_index, slice_index_or}
use Rattle.fku_types.specs.declared.points.Point.{Point}
use Rattle.fku_types.specs.Points.{IsInRange}
use Rattle.plane_geom.specs.Rings.{origin}
use Rattle.mesh_measures.specs.declared.crossing.Corners.{Corners}
use Rattle.mesh_measures.specs.Turns.{turn}

-- one of two numbers is positive and the other negative
abbrev pub are_opposite : ℤ → ℤ → Bool
are_opposite m n = (int_lt m (pos 0) && int_lt (pos 0) n) || (int_lt (pos 0) m && int_lt n (pos 0))

-- three numbers are all positive or all negative
abbrev pub have_one_sign : ℤ → ℤ → ℤ → Bool
have_one_sign l m n =
    (int_lt (pos 0) l && int_lt (pos 0) m && int_lt (pos 0) n)
    || (int_lt l (pos 0) && int_lt m (pos 0) && int_lt n (pos 0))

-- the edge from p to q passes through the inside of a triangle: its ends lie strictly on both sides of the triangle's
-- plane, and its line has all three edges of the triangle strictly on one side
unfoldable pub passes : Point → Point → Corners → Bool
passes p q t =
    are_opposite (turn t.a t.b t.c p) (turn t.a t.b t.c q)
    && have_one_sign (turn p q t.a t.b) (turn p q t.b t.c) (turn p q t.c t.a)

-- an edge of the first triangle passes through the inside of the second
unfoldable pub pierces : Corners → Corners → Bool
pierces s t = passes s.a s.b t || passes s.b s.c t || passes s.c s.a t

-- two triangles cross: an edge of one passes through the inside of the other
unfoldable pub cross : Corners → Corners → Bool
cross s t = pierces s t || pierces t s

-- the corners are in range
pub record AreInRange (t : Corners) : Type 0 where
  pub a : IsInRange t.a
  pub b : IsInRange t.b
  pub c : IsInRange t.c

-- the corners of a triangle of three vertex ids
abbrev pub corners_of : List Point → List ℕ → Corners
corners_of vertices t = record {
  a = slice_index_or vertices (slice_index t 0) origin;
  b = slice_index_or vertices (slice_index t 1) origin;
  c = slice_index_or vertices (slice_index t 2) origin;
}

-- the corners of each triangle of a part
abbrev pub part_corners : List Point → List (List ℕ) → List Corners
part_corners vertices triangles = map (corners_of vertices) triangles

-- for each triangle of a part, how many triangles of the part it crosses; none crosses itself
abbrev pub crossing_counts : List Corners → List ℕ
crossing_counts part = map (λ s. count_by (cross s) part) part

-- how many pairs of triangles of a part cross, each pair counted at its first triangle
abbrev pub crossing_pairs : List Corners → ℕ
crossing_pairs [] = 0
crossing_pairs (s ∷ more) = count_by (cross s) more + crossing_pairs more
