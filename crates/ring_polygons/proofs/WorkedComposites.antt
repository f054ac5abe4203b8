-- The definitions at worked examples: squares and triangles beside one another, at one height.
use Rattle.std.proofs.Common.{◌≡◌, ℕ, List, [], ◌∷◌, ℤ, pos, negsuc, refl, arith}
use Rattle.std.specs.Prelude.{slice_index}
use Rattle.fku_types.specs.declared.points.Point.{Point}
use Rattle.fku_types.specs.Points.{square}
use Rattle.plane_geom.specs.Rings.{RingView}
use Rattle.plane_geom.specs.Lengths.{distance_square}
use Rattle.ring_polygons.specs.declared.fault.ComposeFault.TheVariants.{TooLong, NoMemory}
use Rattle.ring_polygons.specs.Faults.{IsCause}
use Rattle.ring_polygons.specs.Bridges.{square_of}
use Rattle.ring_polygons.specs.Composites.{no_view, first_least, nearest_vertex, ring_square, nearest_ring, bridge_place, least_bridge, join, bridged, composite, ids_of}

abbrev at : ℤ → ℤ → Point
at x y = record { x = x; y = y; z = pos 10 }

abbrev middle : RingView
middle = record {
  points = at (pos 0) (pos 0) ∷ at (pos 10) (pos 0) ∷ at (pos 10) (pos 10) ∷ at (pos 0) (pos 10) ∷ [];
  ids = 4 ∷ 5 ∷ 6 ∷ 7 ∷ [];
}

abbrev right : RingView
right = record {
  points = at (pos 20) (pos 0) ∷ at (pos 30) (pos 0) ∷ at (pos 30) (pos 10) ∷ at (pos 20) (pos 10) ∷ [];
  ids = 8 ∷ 9 ∷ 10 ∷ 11 ∷ [];
}

-- a triangle with its ids, and one on either side of it
abbrev triangle : ℤ → ℤ → ℤ → List ℕ → RingView
triangle left right top ids = record { points = at left (pos 0) ∷ at right (pos 0) ∷ at top (pos 8) ∷ []; ids = ids }

abbrev between : RingView
between = triangle (pos 0) (pos 10) (pos 5) (0 ∷ 1 ∷ 2 ∷ [])

abbrev on_the_left : RingView
on_the_left = triangle (negsuc 19) (negsuc 9) (negsuc 14) (3 ∷ 4 ∷ 5 ∷ [])

abbrev on_the_right : RingView
on_the_right = triangle (pos 20) (pos 30) (pos 25) (6 ∷ 7 ∷ 8 ∷ [])

-- of equal least numbers, the first one
first : (first_least (slice_index (5 ∷ 3 ∷ 9 ∷ 3 ∷ [])) 4 ≡ 1) × (first_least (slice_index (5 ∷ [])) 1 ≡ 0)
    × (first_least (slice_index (5 ∷ 3 ∷ 2 ∷ [])) 3 ≡ 2)
first = (refl, refl, refl)

-- all three coordinates count
lengths : square_of (record { points = record { x = pos 0; y = pos 0; z = pos 0 } ∷ []; ids = 0 ∷ [] })
    (right ∷ record { points = at (pos 1) (pos 1) ∷ record { x = pos 3; y = pos 4; z = pos 12 } ∷ []; ids = 0 ∷ 1 ∷ [] }
    ∷ []) 0 1 1 ≡ 169
unfolding distance_square square
lengths = refl

-- the vertex of the square on the right that is nearest to a corner of the other
vertices : (nearest_vertex (at (pos 10) (pos 10)) right ≡ 3) × (ring_square (at (pos 10) (pos 10)) right ≡ 100)
    × (nearest_vertex (at (pos 10) (pos 5)) right ≡ 0)
unfolding distance_square square
vertices = (refl, refl, refl)

-- of two equal rings, the first one
rings : (nearest_ring (at (pos 10) (pos 0)) (on_the_left ∷ on_the_right ∷ []) ≡ 1)
    × (nearest_ring (at (pos 0) (pos 0)) (on_the_left ∷ on_the_right ∷ []) ≡ 0)
    × (nearest_ring (at (pos 0) (pos 0)) (on_the_right ∷ on_the_right ∷ []) ≡ 0)
unfolding distance_square square
rings = (refl, refl, refl)

-- two bridges of length 10 lead from the square to the one on its right: the one with the first place is least
bridge : (bridge_place middle (right ∷ []) ≡ 1)
    × (least_bridge middle (right ∷ []) ≡ record { place = 1; other = 0; vertex = 0 })
unfolding least_bridge distance_square square
bridge = (refl, refl)

-- a bridge is passed in both directions
ways : join {X = ℕ} (0 ∷ 1 ∷ 2 ∷ []) (7 ∷ 8 ∷ 9 ∷ []) 1 2 ≡ 0 ∷ 1 ∷ 9 ∷ 7 ∷ 8 ∷ 9 ∷ 1 ∷ 2 ∷ []
ways = refl

both : (bridged between on_the_right 1 0).points ≡ at (pos 0) (pos 0) ∷ at (pos 10) (pos 0) ∷ at (pos 20) (pos 0)
    ∷ at (pos 30) (pos 0) ∷ at (pos 25) (pos 8) ∷ at (pos 20) (pos 0) ∷ at (pos 10) (pos 0) ∷ at (pos 5) (pos 8) ∷ []
both = refl

none : composite [] ≡ no_view
none = refl

alone : composite (middle ∷ []) ≡ middle
alone = refl

two : (composite (middle ∷ right ∷ [])).ids ≡ 4 ∷ 5 ∷ 8 ∷ 9 ∷ 10 ∷ 11 ∷ 8 ∷ 5 ∷ 6 ∷ 7 ∷ []
unfolding least_bridge distance_square square
two = refl

-- the ring on the left is joined first, by the bridge from place 0, and then the other one
three : (composite (between ∷ on_the_right ∷ on_the_left ∷ [])).ids ≡ 0 ∷ 4 ∷ 5 ∷ 3 ∷ 4 ∷ 0 ∷ 1 ∷ 6 ∷ 7 ∷ 8 ∷ 6 ∷ 1 ∷ 2
    ∷ []
unfolding least_bridge distance_square square
three = refl

edges : ids_of (between ∷ on_the_right ∷ []) ≡ (0 ∷ 1 ∷ 2 ∷ []) ∷ (6 ∷ 7 ∷ 8 ∷ []) ∷ []
edges = refl

-- 4,096 vertices are not too long, and 4,097 are
long : (IsCause 4096 NoMemory) × (IsCause 4097 (TooLong 4097)) × (IsCause 4096 (TooLong 4096) → ⊥)
    × (IsCause 4097 (TooLong 4096) → ⊥) × (IsCause 4097 NoMemory → ⊥)
long = (omega arith, (refl, omega arith), λ h. omega (arith, h.1), λ h. omega (arith, h.0), λ h. omega (arith, h))
