-- The rule by which a ring is cut into triangles.
use Rattle.std.specs.Prelude.{◌≡◌, ◌⊎◌, ℕ, ◌+◌, ◌-◌, ◌%◌, ◌<◌, List, [], ◌∷◌, length, slice_index_or, remove, ℤ, pos, ◌*ℤ◌, ◌<ℤ◌, ◌≤ℤ◌}
use Rattle.fku_types.specs.declared.points.Point.{Point}
use Rattle.plane_geom.specs.Rings.{origin}
use Rattle.plane_geom.specs.Planes.{side}
use Rattle.ring_polygons.specs.declared.twins.Twins.{Twins}
use Rattle.ring_polygons.specs.declared.twins.Twins.TheVariants.{Hinder, Pass}
use Rattle.ring_polygons.specs.Caps.{corner}

-- the places before and after a place of a ring of n vertices
abbrev pub place_before : ℕ → ℕ → ℕ
place_before n t = (t + n - 1) % n

abbrev pub place_after : ℕ → ℕ → ℕ
place_after n t = (t + 1) % n

-- the point of a ring at a place
abbrev pub point_at : List Point → ℕ → Point
point_at ring k = slice_index_or ring k origin

-- the point lies in the closed triangle abc: outside none of its three edges, for the turning that the sign gives
pub record IsInTriangle (sign : ℤ) (a b c p : Point) : Type 0 where
  pub first : pos 0 ≤ℤ (sign *ℤ side a b p)
  pub second : pos 0 ≤ℤ (sign *ℤ side b c p)
  pub third : pos 0 ≤ℤ (sign *ℤ side c a p)

-- the vertex at place k has the point of one of the three vertices of the corner at place t
abbrev pub IsTwin : List Point → ℕ → ℕ → Type 0
IsTwin ring t k = (point_at ring k ≡ point_at ring (place_before (length ring) t)) ⊎ (point_at ring k ≡ point_at ring t)
    ⊎ (point_at ring k ≡ point_at ring (place_after (length ring) t))

-- the vertex at place k can block the corner at place t: it is none of its vertices, and no twin if twins are passed
pub record CanHinder (twins : Twins) (ring : List Point) (t k : ℕ) : Type 0 where
  pub there : k < length ring
  pub not_before : k ≡ place_before (length ring) t → ⊥
  pub not_at : k ≡ t → ⊥
  pub not_after : k ≡ place_after (length ring) t → ⊥
  pub no_twin : twins ≡ Pass → IsTwin ring t k → ⊥

-- the corner at a place turns as the ring does, and no vertex that can block it lies in its closed triangle
pub record IsEar (twins : Twins) (sign : ℤ) (ring : List Point) (t : ℕ) : Type 0 where
  pub there : t < length ring
  pub turns : pos 0 <ℤ (sign *ℤ side (point_at ring (place_before (length ring) t)) (point_at ring t)
      (point_at ring (place_after (length ring) t)))
  pub empty : (k : ℕ) → CanHinder twins ring t k
      → IsInTriangle sign (point_at ring (place_before (length ring) t)) (point_at ring t)
      (point_at ring (place_after (length ring) t))
      (point_at ring k) → ⊥

-- the place to be cut: that of the first ear, or 0 if there is no ear
pub data IsCutNext (twins : Twins) (sign : ℤ) (ring : List Point) : ℕ → Type 0 where
  first_ear : (t : ℕ) → IsEar twins sign ring t → ((k : ℕ) → k < t → IsEar twins sign ring k → ⊥)
      → IsCutNext twins sign ring t
  no_ear : ((k : ℕ) → IsEar twins sign ring k → ⊥) → IsCutNext twins sign ring 0

-- the triangles into which a ring is cut: corner by corner while more than three vertices are left, and then those
-- three
pub data IsCutBy (twins : Twins) (sign : ℤ) : List Point → List ℕ → List (List ℕ) → Type 0 where
  last : (ring : List Point) (ids : List ℕ) → length ring ≡ 3 → IsCutBy twins sign ring ids (ids ∷ [])
  next : (ring : List Point) (ids : List ℕ) (t : ℕ) (triangles : List (List ℕ)) → 3 < length ring
      → IsCutNext twins sign ring t →
      IsCutBy twins sign (remove ring t) (remove ids t) triangles
      → IsCutBy twins sign ring ids (corner 0 ids t ∷ triangles)

-- the same where every vertex can block, as for the ring of a contour
abbrev pub IsCutInto : ℤ → List Point → List ℕ → List (List ℕ) → Type 0
IsCutInto sign ring ids triangles = IsCutBy Hinder sign ring ids triangles
