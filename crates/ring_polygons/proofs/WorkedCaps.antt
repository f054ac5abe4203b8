-- The definitions at worked examples.
use Rattle.std.proofs.Common.{◌≡◌, ℕ, true, false, List, [], ◌∷◌, pos, negsuc, refl}
use Rattle.fku_types.specs.declared.points.Point.{Point}
use Rattle.ring_polygons.specs.declared.faces.Face.TheVariants.{Below}
use Rattle.ring_polygons.specs.declared.twins.Twins.TheVariants.{Hinder, Pass}
use Rattle.ring_polygons.specs.Caps.{corner, sign_of, is_within, is_twin, hinders, is_ear, ear_place, places_by, cap_by, cap_places, top_cap, cap_on, is_folded, folded, folded_by, area_of}

abbrev at : ℕ → ℕ → Point
at x y = record { x = pos x; y = pos y; z = pos 0 }

-- a square, and the same in the other direction
abbrev box : List Point
box = at 0 0 ∷ at 10 0 ∷ at 10 10 ∷ at 0 10 ∷ []

abbrev box_back : List Point
box_back = at 0 0 ∷ at 0 10 ∷ at 10 10 ∷ at 10 0 ∷ []

-- the corner at place 0 turns the wrong way
abbrev dented : List Point
dented = at 8 2 ∷ at 0 0 ∷ at 10 0 ∷ at 10 10 ∷ []

-- the vertex at place 2 lies within the corner at place 0, and on the far edge of it
abbrev arrow : List Point
arrow = at 0 0 ∷ at 10 0 ∷ at 2 2 ∷ at 0 10 ∷ []

abbrev flattened : List Point
flattened = at 0 0 ∷ at 10 0 ∷ at 5 5 ∷ at 0 10 ∷ []

-- no corner turns
abbrev line : List Point
line = at 0 0 ∷ at 1 0 ∷ at 2 0 ∷ at 3 0 ∷ []

corners : (corner {X = ℕ} 0 (4 ∷ 5 ∷ 6 ∷ 7 ∷ []) 0 ≡ 7 ∷ 4 ∷ 5 ∷ [])
    × (corner {X = ℕ} 0 (4 ∷ 5 ∷ 6 ∷ 7 ∷ []) 3 ≡ 6 ∷ 7 ∷ 4 ∷ [])
corners = (refl, refl)

signs : (sign_of box ≡ pos 1) × (sign_of box_back ≡ negsuc 0) × (sign_of line ≡ pos 1)
signs = (refl, refl, refl)

-- inside, on an edge, at a corner, and outside
within : (is_within (pos 1) (at 0 0) (at 9 0) (at 0 9) (at 2 2) ≡ true)
    × (is_within (pos 1) (at 0 0) (at 9 0) (at 0 9) (at 4 0) ≡ true)
    × (is_within (pos 1) (at 0 0) (at 9 0) (at 0 9) (at 0 9) ≡ true)
    × (is_within (pos 1) (at 0 0) (at 9 0) (at 0 9) (at 5 5) ≡ false)
    × (is_within (negsuc 0) (at 0 0) (at 0 9) (at 9 0) (at 2 2) ≡ true)
within = (refl, refl, refl, refl, refl)

hindered : (hinders Hinder (pos 1) arrow 0 2 ≡ true) × (hinders Hinder (pos 1) flattened 0 2 ≡ true)
    × (hinders Hinder (pos 1) box 0 2 ≡ false) × (hinders Hinder (pos 1) arrow 0 1 ≡ false)
hindered = (refl, refl, refl, refl)

ears : (is_ear Hinder (pos 1) box 0 ≡ true) × (is_ear Hinder (negsuc 0) box_back 0 ≡ true)
    × (is_ear Hinder (pos 1) dented 0 ≡ false) × (is_ear Hinder (pos 1) arrow 0 ≡ false)
    × (is_ear Hinder (pos 1) flattened 0 ≡ false) × (is_ear Hinder (pos 1) line 1 ≡ false)
unfolding is_ear
ears = (refl, refl, refl, refl, refl, refl)

-- the first ear, and 0 if there is none
places : (ear_place Hinder (pos 1) box ≡ 0) × (ear_place Hinder (pos 1) dented ≡ 1)
    × (ear_place Hinder (pos 1) arrow ≡ 1) × (ear_place Hinder (pos 1) line ≡ 0)
unfolding is_ear
places = (refl, refl, refl, refl)

ear_by_ear : cap_places (at 8 2 ∷ at 0 0 ∷ at 10 0 ∷ at 10 10 ∷ at 9 10 ∷ []) ≡ 1 ∷ 0 ∷ []
unfolding is_ear places_by
ear_by_ear = refl

top : (top_cap box (4 ∷ 5 ∷ 6 ∷ 7 ∷ []) ≡ (7 ∷ 4 ∷ 5 ∷ []) ∷ (5 ∷ 6 ∷ 7 ∷ []) ∷ [])
    × (top_cap dented (0 ∷ 1 ∷ 2 ∷ 3 ∷ []) ≡ (0 ∷ 1 ∷ 2 ∷ []) ∷ (0 ∷ 2 ∷ 3 ∷ []) ∷ [])
    × (top_cap (at 0 0 ∷ at 9 0 ∷ at 0 9 ∷ []) (0 ∷ 1 ∷ 2 ∷ []) ≡ (0 ∷ 1 ∷ 2 ∷ []) ∷ [])
unfolding is_ear places_by
top = (refl, refl, refl)

bottom : (cap_on Below box (0 ∷ 1 ∷ 2 ∷ 3 ∷ []) ≡ (3 ∷ 1 ∷ 0 ∷ []) ∷ (1 ∷ 3 ∷ 2 ∷ []) ∷ [])
    × (cap_on Below (at 0 0 ∷ at 9 0 ∷ at 0 9 ∷ []) (0 ∷ 1 ∷ 2 ∷ []) ≡ (0 ∷ 2 ∷ 1 ∷ []) ∷ [])
unfolding is_ear places_by
bottom = (refl, refl)

-- triangles without area count as folded
folds : (folded box ≡ 0) × (folded box_back ≡ 0) × (folded dented ≡ 0) × (folded line ≡ 2)
    × (is_folded (pos 1) (at 0 0 ∷ at 0 9 ∷ at 9 0 ∷ []) ≡ true)
unfolding is_ear places_by
folds = (refl, refl, refl, refl, refl)

-- a square with a square hole, joined by the bridge from the first vertex to the hole and back: when it is passed the
-- second time, its ends are twins of earlier vertices
abbrev ring_with_hole : List Point
ring_with_hole = at 0 0 ∷ at 10 10 ∷ at 10 20 ∷ at 20 20 ∷ at 20 10 ∷ at 10 10 ∷ at 0 0 ∷ at 30 0 ∷ at 30 30 ∷ at 0 30
    ∷ []

abbrev ring_ids : List ℕ
ring_ids = 0 ∷ 4 ∷ 7 ∷ 6 ∷ 5 ∷ 4 ∷ 0 ∷ 1 ∷ 2 ∷ 3 ∷ []

abbrev ring_vertices : List Point
ring_vertices = at 0 0 ∷ at 30 0 ∷ at 30 30 ∷ at 0 30 ∷ at 10 10 ∷ at 20 10 ∷ at 20 20 ∷ at 10 20 ∷ []

-- the vertices at places 0 and 6 have one point, and so have those at places 1 and 5
twins : (is_twin ring_with_hole 5 0 ≡ true) × (is_twin ring_with_hole 5 1 ≡ true) × (is_twin ring_with_hole 6 1 ≡ true)
    × (is_twin ring_with_hole 6 2 ≡ false)
twins = (refl, refl, refl, refl)

-- the twin at place 1 blocks the corner at place 6, unless it is passed
passed : (hinders Hinder (pos 1) ring_with_hole 6 1 ≡ true) × (hinders Pass (pos 1) ring_with_hole 6 1 ≡ false)
    × (is_ear Hinder (pos 1) ring_with_hole 6 ≡ false) × (is_ear Pass (pos 1) ring_with_hole 6 ≡ true)
unfolding is_ear
passed = (refl, refl, refl, refl)

ring_cap : (cap_by Pass ring_with_hole ring_ids ≡ (3 ∷ 0 ∷ 4 ∷ []) ∷ (3 ∷ 4 ∷ 7 ∷ []) ∷ (3 ∷ 7 ∷ 6 ∷ [])
    ∷ (5 ∷ 4 ∷ 0 ∷ []) ∷ (5 ∷ 0 ∷ 1 ∷ []) ∷ (6 ∷ 5 ∷ 1 ∷ []) ∷ (6 ∷ 1 ∷ 2 ∷ []) ∷ (6 ∷ 2 ∷ 3 ∷ []) ∷ [])
    × (folded_by Pass ring_with_hole ≡ 0)
unfolding is_ear places_by
ring_cap = (refl, refl)

ring_area : area_of ring_vertices (cap_by Pass ring_with_hole ring_ids) ≡ pos 1600
unfolding is_ear places_by
ring_area = refl
