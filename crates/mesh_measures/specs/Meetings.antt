-- The meaning, in points, of triangles that cross.
use Rattle.std.specs.Prelude.{◌≡◌, ◌⊎◌, ℕ, ◌+◌, ◌<◌, ℤ, pos, ◌+ℤ◌, ◌*ℤ◌}
use Rattle.fku_types.specs.declared.points.Point.{Point}
use Rattle.mesh_measures.specs.declared.crossing.Corners.{Corners}
use Rattle.mesh_measures.specs.Turns.{turn}

-- in one coordinate, s times p plus r times q is l times a plus m times b plus n times c
abbrev pub SameMean : ℕ → ℕ → ℕ → ℕ → ℕ → ℤ → ℤ → ℤ → ℤ → ℤ → Type 0
SameMean s r l m n p q a b c = (pos s *ℤ p) +ℤ (pos r *ℤ q) ≡ ((pos l *ℤ a) +ℤ (pos m *ℤ b)) +ℤ (pos n *ℤ c)

-- a point strictly between p and q is a point strictly inside a triangle: a mean of p and q with positive weights is
-- the mean of the corners with positive weights of the same sum
pub record MeetsInside (p q : Point) (t : Corners) : Type 0 where
  pub s : ℕ
  pub r : ℕ
  pub l : ℕ
  pub m : ℕ
  pub n : ℕ
  pub some_s : 0 < s
  pub some_r : 0 < r
  pub some_l : 0 < l
  pub some_m : 0 < m
  pub some_n : 0 < n
  pub sum : s + r ≡ (l + m) + n
  pub x : SameMean s r l m n p.x q.x t.a.x t.b.x t.c.x
  pub y : SameMean s r l m n p.y q.y t.a.y t.b.y t.c.y
  pub z : SameMean s r l m n p.z q.z t.a.z t.b.z t.c.z

-- the edge from p to q meets the inside of a triangle in a point strictly between its ends, and does not lie in the
-- plane of the triangle
pub record PassesThrough (p q : Point) (t : Corners) : Type 0 where
  pub meets : MeetsInside p q t
  pub aside : turn t.a t.b t.c p ≡ pos 0 → ⊥

-- an edge of the first triangle passes through the inside of the second
abbrev pub Pierces : Corners → Corners → Type 0
Pierces s t = PassesThrough s.a s.b t ⊎ PassesThrough s.b s.c t ⊎ PassesThrough s.c s.a t

-- two triangles cross: an edge of one passes through the inside of the other
abbrev pub Cross : Corners → Corners → Type 0
Cross s t = Pierces s t ⊎ Pierces t s
