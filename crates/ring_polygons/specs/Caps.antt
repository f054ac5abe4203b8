-- Caps: a ring is cut into triangles, ear by ear.
use Rattle.std.specs.Prelude.{ℕ, zero, suc, ◌+◌, ◌-◌, ◌%◌, Bool, true, false, ◌&&◌, ◌||◌, ◌==◌, not, List, [], ◌∷◌, length, map, slice_index_or, remove, swap, find, unwrap_or, count_by, ℤ, pos, negsuc, ◌*ℤ◌, int_lt, int_le}
use Rattle.std.specs.List.{list_all, range_with_len}
use Rattle.std.specs.Ordering.{int_eq}
use Rattle.fku_types.specs.declared.points.Point.{Point}
use Rattle.plane_geom.specs.Rings.{origin, item_around, LeavesOver}
use Rattle.plane_geom.specs.Planes.{side, side_of, turns, signed_sum}
use Rattle.ring_polygons.specs.declared.faces.Face.{Face}
use Rattle.ring_polygons.specs.declared.faces.Face.TheVariants.{Below, Above}
use Rattle.ring_polygons.specs.declared.twins.Twins.{Twins}
use Rattle.ring_polygons.specs.declared.twins.Twins.TheVariants.{Hinder, Pass}

-- a corner with its neighbours before and after
abbrev pub corner : {X : Type 0} → X → List X → ℕ → List X
corner d xs t = item_around d xs (t + length xs - 1) ∷ slice_index_or xs t d ∷ item_around d xs (t + 1) ∷ []

-- the corners that are cut off at places in turn, and the rest of the ring
abbrev pub cut : {X : Type 0} → X → List ℕ → List X → List (List X)
cut d [] xs = xs ∷ []
cut d (t ∷ ts) xs = corner d xs t ∷ cut d ts (remove xs t)

-- the sign of a ring that turns counterclockwise or not at all, and of one that turns clockwise
abbrev pub sign : Bool → ℤ
sign true = pos 1
sign false = negsuc 0

abbrev pub sign_of : List Point → ℤ
sign_of ring = sign (int_le (pos 0) (turns ring))

-- the point lies in the closed triangle that turns by the sign
abbrev pub is_within : ℤ → Point → Point → Point → Point → Bool
is_within sign a b c p =
    int_le (pos 0) (sign *ℤ side a b p) && int_le (pos 0) (sign *ℤ side b c p) && int_le (pos 0) (sign *ℤ side c a p)

-- two points are equal
abbrev pub same_point : Point → Point → Bool
same_point p q = int_eq p.x q.x && (int_eq p.y q.y && int_eq p.z q.z)

-- the vertex at place k is a twin of one of the three vertices of the corner at place t: it has the same point
abbrev pub is_twin : List Point → ℕ → ℕ → Bool
is_twin ring t k =
    same_point (slice_index_or ring k origin) (item_around origin ring (t + length ring - 1))
    || same_point (slice_index_or ring k origin) (slice_index_or ring t origin)
    || same_point (slice_index_or ring k origin) (item_around origin ring (t + 1))

-- twins of a corner's vertices do not block it
abbrev pub pass : Twins → Bool
pass Hinder = false
pass Pass = true

-- the vertex at place k blocks the ear at place t: it is no vertex of that corner, lies in its triangle, and is no twin
-- that is passed
abbrev pub hinders : Twins → ℤ → List Point → ℕ → ℕ → Bool
hinders twins sign ring t k =
    not ((k == (t + length ring - 1) % length ring) || (k == t) || (k == (t + 1) % length ring))
    && is_within sign (item_around origin ring (t + length ring - 1)) (slice_index_or ring t origin)
    (item_around origin ring (t + 1)) (slice_index_or ring k origin)
    && not (pass twins && is_twin ring t k)

-- the corner turns as the ring does, and no other vertex blocks it
unfoldable pub is_ear : Twins → ℤ → List Point → ℕ → Bool
is_ear twins sign ring t =
    int_lt (pos 0) (sign *ℤ side_of (corner origin ring t))
    && list_all (λ k. not (hinders twins sign ring t k)) (range_with_len 0 (length ring))

-- the least place of an ear, or 0 if there is none
abbrev pub ear_place : Twins → ℤ → List Point → ℕ
ear_place twins sign ring = unwrap_or (find (is_ear twins sign ring) (range_with_len 0 (length ring))) 0

-- the places of n ears that are cut off in turn
abbrev pub ear_places : Twins → ℤ → ℕ → List Point → List ℕ
ear_places twins sign zero ring = []
ear_places twins sign (suc n) ring =
    ear_place twins sign ring ∷ ear_places twins sign n (remove ring (ear_place twins sign ring))

-- the places of all ears of a ring, until three vertices are left
unfoldable pub places_by : Twins → List Point → List ℕ
places_by twins ring = ear_places twins (sign_of ring) (length ring - 3) ring

-- the cap of a ring, where twins block ears or do not
abbrev pub cap_by : Twins → List Point → List ℕ → List (List ℕ)
cap_by twins ring ids = cut 0 (places_by twins ring) ids

-- the same for the ring of a contour, where every vertex blocks
abbrev pub cap_places : List Point → List ℕ
cap_places ring = places_by Hinder ring

-- the cap of a ring as a top
abbrev pub top_cap : List Point → List ℕ → List (List ℕ)
top_cap ring ids = cap_by Hinder ring ids

-- triangles with the last two vertices of each exchanged
abbrev pub turned_over : List (List ℕ) → List (List ℕ)
turned_over triangles = map (λ t. swap t 1 2) triangles

-- the triangles of tops turned for a face: below they are turned over
abbrev pub faced : Face → List (List ℕ) → List (List ℕ)
faced Below triangles = turned_over triangles
faced Above triangles = triangles

-- the cap of a ring on a face
abbrev pub cap_on : Face → List Point → List ℕ → List (List ℕ)
cap_on face ring ids = faced face (top_cap ring ids)

-- a cap on a face leaves over its ring: forwards above, and backwards below
abbrev pub LeavesRing : Face → List (List ℕ) → List ℕ → Type 0
LeavesRing Below triangles ids = LeavesOver triangles [] (ids ∷ [])
LeavesRing Above triangles ids = LeavesOver triangles (ids ∷ []) []

-- a triangle does not turn as its ring does
abbrev pub is_folded : ℤ → List Point → Bool
is_folded sign t = int_le (sign *ℤ side_of t) (pos 0)

-- how many triangles of a cap are folded
abbrev pub folded_by : Twins → List Point → ℕ
folded_by twins ring = count_by (is_folded (sign_of ring)) (cut origin (places_by twins ring) ring)

abbrev pub folded : List Point → ℕ
folded ring = folded_by Hinder ring

-- the points of vertex numbers
abbrev pub points_at : List Point → List ℕ → List Point
points_at vertices ids = map (λ v. slice_index_or vertices v origin) ids

-- twice the sum of the signed areas of triangles
abbrev pub area_of : List Point → List (List ℕ) → ℤ
area_of vertices triangles = signed_sum (λ t. side_of (points_at vertices t)) triangles
