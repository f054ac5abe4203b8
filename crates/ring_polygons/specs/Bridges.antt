-- The rule by which rings are joined.
use Rattle.std.specs.Prelude.{◌≡◌, ℕ, ◌<◌, ◌≤◌, List, [], ◌∷◌, length, remove}
use Rattle.plane_geom.specs.Rings.{RingView}
use Rattle.plane_geom.specs.Lengths.{distance_square}
use Rattle.ring_polygons.specs.Composites.{ring_point_at, view_at, Bridge, bridged}

-- the squared length of a bridge from place p of a ring to vertex v of ring c
abbrev pub square_of : RingView → List RingView → ℕ → ℕ → ℕ → ℕ
square_of ring others p c v = distance_square (ring_point_at ring p) (ring_point_at (view_at others c) v)

-- the least bridge, by its squared length, then by place, ring and vertex
pub record IsLeastBridge (ring : RingView) (others : List RingView) (b : Bridge) : Type 0 where
  pub place : b.place < length ring.points
  pub other : b.other < length others
  pub vertex : b.vertex < length (view_at others b.other).points
  pub least : (p c v : ℕ) → p < length ring.points → c < length others → v < length (view_at others c).points
      → square_of ring others b.place b.other b.vertex ≤ square_of ring others p c v
  pub first_place : (p c v : ℕ) → p < length ring.points → c < length others → v < length (view_at others c).points
      → square_of ring others p c v ≡ square_of ring others b.place b.other b.vertex → b.place ≤ p
  pub first_ring : (c v : ℕ) → c < length others → v < length (view_at others c).points
      → square_of ring others b.place c v ≡ square_of ring others b.place b.other b.vertex → b.other ≤ c
  pub first_vertex : (v : ℕ) → v < length (view_at others b.other).points
      → square_of ring others b.place b.other v ≡ square_of ring others b.place b.other b.vertex → b.vertex ≤ v

-- the ring that results if others are joined to a ring in turn, each time by the least bridge to a ring that is left
pub data IsJoinedTo : RingView → List RingView → RingView → Type 0 where
  none_left : (ring : RingView) → IsJoinedTo ring [] ring
  joins : (ring : RingView) (others : List RingView) (b : Bridge) (whole : RingView) → IsLeastBridge ring others b →
      IsJoinedTo (bridged ring (view_at others b.other) b.place b.vertex) (remove others b.other) whole
      → IsJoinedTo ring others whole

-- the first ring with all others joined to it
abbrev pub IsCompositeOf : List RingView → RingView → Type 0
IsCompositeOf [] whole = ⊥
IsCompositeOf (ring ∷ others) whole = IsJoinedTo ring others whole
