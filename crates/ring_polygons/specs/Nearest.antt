-- The least bridges from a ring to each of the others, and which of them is least.
use Rattle.std.specs.Prelude.{◌≡◌, ℕ, ◌+◌, ◌<◌, ◌≤◌, List, length, slice_index_or}
use Rattle.fku_types.specs.declared.points.Point.{Point}
use Rattle.plane_geom.specs.Rings.{RingView, origin}
use Rattle.plane_geom.specs.Lengths.{distance_square}
use Rattle.ring_polygons.specs.declared.bridges.Near.{Near}
use Rattle.ring_polygons.specs.Composites.{view_at}

-- the point of a list at a place
abbrev pub place_of : List Point → ℕ → Point
place_of points k = slice_index_or points k origin

-- the least bridge from a ring to another one, by its squared length, then by place and vertex
pub record IsNearest (ring other : List Point) (near : Near) : Type 0 where
  pub place : near.place < length ring
  pub vertex : near.vertex < length other
  pub square : near.square ≡ distance_square (place_of ring near.place) (place_of other near.vertex)
  pub least : (p v : ℕ) → p < length ring → v < length other
      → near.square ≤ distance_square (place_of ring p) (place_of other v)
  pub first_place : (p v : ℕ) → p < length ring → v < length other
      → distance_square (place_of ring p) (place_of other v) ≡ near.square → near.place ≤ p
  pub first_vertex : (v : ℕ) → v < length other
      → distance_square (place_of ring near.place) (place_of other v) ≡ near.square → near.vertex ≤ v

-- the bridge to a ring of a list
abbrev pub near_at : List Near → ℕ → Near
near_at nears c = slice_index_or nears c (record { square = 0; place = 0; vertex = 0 })

-- the least bridges to the rings of a list
pub record AreNearest (ring : List Point) (others : List RingView) (nears : List Near) : Type 0 where
  pub same : length nears ≡ length others
  pub each : (c : ℕ) → c < length others → IsNearest ring (view_at others c).points (near_at nears c)

-- the first of some bridges that is least by its squared length, then by place
pub record IsFirstNearest (nears : List Near) (c : ℕ) : Type 0 where
  pub there : c < length nears
  pub least : (k : ℕ) → k < length nears → (near_at nears c).square ≤ (near_at nears k).square
  pub place : (k : ℕ) → k < length nears → (near_at nears k).square ≡ (near_at nears c).square
      → (near_at nears c).place ≤ (near_at nears k).place
  pub first : (k : ℕ) → k < length nears → (near_at nears k).square ≡ (near_at nears c).square
      → (near_at nears k).place ≡ (near_at nears c).place → c ≤ k

-- some points are inserted after a place of a ring
pub record IsExtended (before after : List Point) (place added : ℕ) : Type 0 where
  pub there : place < length before
  pub size : length after ≡ length before + added
  pub front : (k : ℕ) → k ≤ place → place_of after k ≡ place_of before k
  pub back : (k : ℕ) → place < k → k < length before → place_of after (k + added) ≡ place_of before k
