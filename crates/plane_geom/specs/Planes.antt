-- Signed areas in the plane, ignoring z.
use Rattle.std.specs.Prelude.{List, [], ◌∷◌, ℤ, pos, ◌+ℤ◌, ◌-ℤ◌, ◌*ℤ◌, slice_index_or}
use Rattle.fku_types.specs.declared.points.Point.{Point}
use Rattle.plane_geom.specs.Rings.{origin, ring_edges}

-- the cross product of two vectors
abbrev pub cross_product : ℤ → ℤ → ℤ → ℤ → ℤ
cross_product ux uy vx vy = (ux *ℤ vy) -ℤ (uy *ℤ vx)

-- twice the signed area of the triangle from a to b to c: positive if c lies to the left of the line from a to b
abbrev pub side : Point → Point → Point → ℤ
side a b c = cross_product (b.x -ℤ a.x) (b.y -ℤ a.y) (c.x -ℤ a.x) (c.y -ℤ a.y)

-- the same for a list of three points
abbrev pub side_of : List Point → ℤ
side_of t = side (slice_index_or t 0 origin) (slice_index_or t 1 origin) (slice_index_or t 2 origin)

-- the sum of a signed number over a list
abbrev pub signed_sum : {X : Type 0} → (X → ℤ) → List X → ℤ
signed_sum f [] = pos 0
signed_sum f (x ∷ xs) = f x +ℤ signed_sum f xs

-- what an edge adds to the turns of its ring
abbrev pub edge_turn : Point → Point → ℤ
edge_turn a b = cross_product a.x a.y b.x b.y

-- twice the signed area of a ring: the sum over its edges
abbrev pub turns : List Point → ℤ
turns ring = signed_sum (λ e. edge_turn e.0 e.1) (ring_edges ring)
