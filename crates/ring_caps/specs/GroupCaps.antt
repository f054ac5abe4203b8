-- The cap of a group of rings: their composite, cut by the ear rule, where twins do not block ears.
use Rattle.std.specs.Prelude.{◌≡◌, ℕ, List, ℤ}
use Rattle.fku_types.specs.declared.points.Point.{Point}
use Rattle.plane_geom.specs.Rings.{RingView, origin}
use Rattle.plane_geom.specs.Planes.{signed_sum, turns}
use Rattle.ring_polygons.specs.Composites.{composite}
use Rattle.ring_polygons.specs.declared.twins.Twins.TheVariants.{Pass}
use Rattle.ring_polygons.specs.Caps.{sign_of, cut, places_by, cap_by, folded_by, points_at}
use Rattle.ring_polygons.specs.Ears.{IsCutBy}

-- the triangles of the composite of some rings; the bridges' ends, which it passes twice, block no ear
abbrev pub group_cap : List RingView → List (List ℕ)
group_cap rings = cap_by Pass (composite rings).points (composite rings).ids

-- the same triangles, each by its three points
abbrev pub group_corners : List RingView → List (List Point)
group_corners rings = cut origin (places_by Pass (composite rings).points) (composite rings).points

-- how many of them do not turn as the composite does
abbrev pub group_folded : List RingView → ℕ
group_folded rings = folded_by Pass (composite rings).points

-- the same, as the rule states it
abbrev pub IsGroupCut : List RingView → List (List ℕ) → Type 0
IsGroupCut rings triangles =
    IsCutBy Pass (sign_of (composite rings).points) (composite rings).points (composite rings).ids triangles

-- the ids of a ring are numbers of vertices at its points
abbrev pub IsNumbered : List Point → RingView → Type 0
IsNumbered vertices ring = points_at vertices ring.ids ≡ ring.points

-- twice the sum of the signed areas of rings
abbrev pub area_in : List RingView → ℤ
area_in rings = signed_sum (λ r. turns r.points) rings
