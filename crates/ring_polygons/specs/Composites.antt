-- Composite contours: several rings joined by bridges.
use Rattle.std.specs.Prelude.{ℕ, zero, suc, ◌+◌, List, [], ◌∷◌, ◌++◌, take, drop, length, slice_index_or, map, remove, nat_lt, if◌then◌else◌}
use Rattle.fku_types.specs.declared.points.Point.{Point}
use Rattle.plane_geom.specs.Rings.{RingView, origin}
use Rattle.plane_geom.specs.Lengths.{distance_square}

abbrev pub no_view : RingView
no_view = record { points = []; ids = [] }

-- the point of a ring at a place, and the ring of a list at a place
abbrev pub ring_point_at : RingView → ℕ → Point
ring_point_at ring k = slice_index_or ring.points k origin

abbrev pub view_at : List RingView → ℕ → RingView
view_at rings c = slice_index_or rings c no_view

-- the first of the numbers below n at which f is least
abbrev pub first_least : (ℕ → ℕ) → ℕ → ℕ
first_least f zero = 0
first_least f (suc n) = if nat_lt (f n) (f (first_least f n)) then n else first_least f n

-- the vertex of a ring that is nearest to a point, its squared distance, and the ring whose nearest vertex is nearest
abbrev pub nearest_vertex : Point → RingView → ℕ
nearest_vertex p ring = first_least (λ v. distance_square p (ring_point_at ring v)) (length ring.points)

abbrev pub ring_square : Point → RingView → ℕ
ring_square p ring = distance_square p (ring_point_at ring (nearest_vertex p ring))

abbrev pub nearest_ring : Point → List RingView → ℕ
nearest_ring p rings = first_least (λ c. ring_square p (view_at rings c)) (length rings)

-- the place of a ring that is nearest to a vertex of the other rings
abbrev pub bridge_square : RingView → List RingView → ℕ → ℕ
bridge_square ring others p = ring_square (ring_point_at ring p)
    (view_at others (nearest_ring (ring_point_at ring p) others))

abbrev pub bridge_place : RingView → List RingView → ℕ
bridge_place ring others = first_least (bridge_square ring others) (length ring.points)

-- a bridge from a place of a ring to a vertex of one of the other rings
pub record Bridge : Type 0 where
  pub place : ℕ
  pub other : ℕ
  pub vertex : ℕ

-- the bridge that is least by squared length, then by place, ring and vertex
unfoldable pub least_bridge : RingView → List RingView → Bridge
least_bridge ring others =
    let p = bridge_place ring others in
    let c = nearest_ring (ring_point_at ring p) others in
    record { place = p; other = c; vertex = nearest_vertex (ring_point_at ring p) (view_at others c) }

-- a list up to place p, then once round another list from its place v and back to it, then on from place p
abbrev pub join : {X : Type 0} → List X → List X → ℕ → ℕ → List X
join ring other p v = take (p + 1) ring ++ (drop v other ++ (take (v + 1) other ++ drop p ring))

-- two rings joined by a bridge, which is passed in both directions
abbrev pub bridged : RingView → RingView → ℕ → ℕ → RingView
bridged ring other p v = record { points = join ring.points other.points p v; ids = join ring.ids other.ids p v }

-- a ring joined with n others, always by the least bridge
abbrev pub join_others : ℕ → RingView → List RingView → RingView
join_others zero ring others = ring
join_others (suc n) ring others =
    let b = least_bridge ring others in
    join_others n (bridged ring (view_at others b.other) b.place b.vertex) (remove others b.other)

-- all rings joined, beginning with the first
abbrev pub composite : List RingView → RingView
composite [] = no_view
composite (ring ∷ others) = join_others (length others) ring others

abbrev pub ids_of : List RingView → List (List ℕ)
ids_of rings = map (λ r. r.ids) rings
