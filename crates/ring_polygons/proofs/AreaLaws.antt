-- The signed areas of a ring's triangles add up to the ring's.
use Rattle.std.proofs.Common.{◌≡◌, ℕ, ◌+◌, ◌-◌, ◌%◌, ◌<◌, ◌≤◌, List, [], ◌∷◌, length, map, get_or, remove, ℤ, ◌+ℤ◌, ◌-ℤ◌, ◌*ℤ◌, refl, sym, ap, ap₂, ◌∙◌, arith, subst}
use Rattle.std.specs.List.{AllByRecursion}
use Rattle.std.proofs.lemmas.Int.{ints}
use Rattle.std.proofs.lemmas.List.{length-map, get_or-map}
use Rattle.std.proofs.lemmas.List.Edits.{length-remove}
use Rattle.fku_types.specs.declared.points.Point.{Point}
use Rattle.fku_types.proofs.ListLaws.{map_remove}
use Rattle.plane_geom.specs.Rings.{origin, item_around}
use Rattle.plane_geom.specs.Planes.{signed_sum, side, side_of, edge_turn, turns}
use Rattle.plane_geom.proofs.Vectors.{sub-mul, mul-sub, mul-comm}
use Rattle.ring_polygons.specs.declared.twins.Twins.{Twins}
use Rattle.ring_polygons.specs.Caps.{corner, cut, places_by, cap_by, points_at, area_of}
use Rattle.ring_polygons.proofs.CutLaws.{AreCorners, HasThree, cut_three}
use Rattle.ring_polygons.proofs.CapLaws.{corners_by}
use Rattle.ring_polygons.proofs.SignedSums.{Turns, ring_signed, cut_signed}

-- a triangle's area by its edges
pub product : (a b c d : ℤ) → (a -ℤ b) *ℤ (c -ℤ d) ≡ ((a *ℤ c) -ℤ (a *ℤ d)) -ℤ ((b *ℤ c) -ℤ (b *ℤ d))
product a b c d = sub-mul a b (c -ℤ d) ∙ ap₂ ◌-ℤ◌ (mul-sub a c d) (mul-sub b c d)

pub side_turns : (a b c : Point) → side a b c ≡ edge_turn a b +ℤ (edge_turn b c +ℤ edge_turn c a)
side_turns a b c =
    omega (
      arith,
      ints,
      product b.x a.x c.y a.y,
      product b.y a.y c.x a.x,
      mul-comm b.y c.x,
      mul-comm b.y a.x,
      mul-comm a.y c.x,
      mul-comm a.y a.x,
    )

pub edge_turn-turns : Turns edge_turn
edge_turn-turns a b = omega (arith, ints, mul-comm a.x b.y, mul-comm a.y b.x)

one_side : (t : List Point) → HasThree t → side_of t ≡ ring_signed edge_turn t
one_side [] h = absurd (omega (arith, h))
one_side (a ∷ []) h = absurd (omega (arith, h))
one_side (a ∷ b ∷ []) h = absurd (omega (arith, h))
one_side (a ∷ b ∷ c ∷ []) h = omega (arith, ints, side_turns a b c)
one_side (a ∷ b ∷ c ∷ e ∷ t) h = absurd (omega (arith, h))

all_sides : (ts : List (List Point)) → AllByRecursion HasThree ts
    → signed_sum side_of ts ≡ signed_sum (ring_signed edge_turn) ts
all_sides [] h = refl
all_sides (t ∷ ts) h = ap₂ ◌+ℤ◌ (one_side t h.0) (all_sides ts h.1)

-- whichever corners are cut off
pub cut_sides : (places : List ℕ) (ring : List Point) → AreCorners (length ring) places
    → signed_sum side_of (cut origin places ring) ≡ turns ring
cut_sides places ring h = all_sides (cut origin places ring) (cut_three origin places ring h)
    ∙ cut_signed edge_turn edge_turn-turns origin places ring h

pub cap_sides : (twins : Twins) (ring : List Point) → 3 ≤ length ring
    → signed_sum side_of (cut origin (places_by twins ring) ring) ≡ turns ring
cap_sides twins ring h = cut_sides (places_by twins ring) ring (corners_by twins ring h)

-- ---- triangles of vertex numbers
-- a ring of images is cut into the images of the parts
map_around : {X Y : Type 0} (g : X → Y) (d : X) (e : Y) (xs : List X) (k : ℕ) → 0 < length xs
    → item_around e (map g xs) k ≡ g (item_around d xs k)
map_around {Y = Y} g d e xs k some =
    ap (λ (n : ℕ). get_or (map g xs) (k % n) e) (length-map xs g) ∙ get_or-map g xs (k % length xs) d e (omega arith)

map_corner : {X Y : Type 0} (g : X → Y) (d : X) (e : Y) (xs : List X) (t : ℕ) → t < length xs
    → map g (corner d xs t) ≡ corner e (map g xs) t
map_corner {Y = Y} g d e xs t l =
    let n : t + length (map g xs) - 1 ≡ t + length xs - 1 = omega (arith, length-map xs g) in
    let a : g (item_around d xs (t + length xs - 1)) ≡ item_around e (map g xs) (t + length (map g xs) - 1) =
    sym (ap (item_around e (map g xs)) n ∙ map_around g d e xs (t + length xs - 1) (omega arith)) in
    let b : g (get_or xs t d) ≡ get_or (map g xs) t e = sym (get_or-map g xs t d e l) in
    let c : g (item_around d xs (t + 1)) ≡ item_around e (map g xs) (t + 1) =
    sym (map_around g d e xs (t + 1) (omega arith)) in
    ap₂ (λ (x : Y) (ys : List Y). x ∷ ys) a (ap₂ (λ (x y : Y). x ∷ y ∷ []) b c)

pub map_cut : {X Y : Type 0} (g : X → Y) (d : X) (e : Y) (places : List ℕ) (xs : List X) → AreCorners (length xs) places
    → map (map g) (cut d places xs) ≡ cut e places (map g xs)
map_cut g d e [] xs h = refl
map_cut {Y = Y} g d e (t ∷ ts) xs h =
    let n : length (remove xs t) ≡ length xs - 1 = omega (arith, length-remove xs t h.0) in
    let rest = map_cut g d e ts (remove xs t) (subst (λ (i : ℕ). AreCorners i ts) (sym n) h.2) in
    ap₂ (λ (x : List Y) (ys : List (List Y)). x ∷ ys) (map_corner g d e xs t h.0)
    (rest ∙ ap (cut e ts) (map_remove g xs t))

sum_map : {X Y : Type 0} (f : Y → ℤ) (g : X → Y) (xs : List X)
    → signed_sum (λ (x : X). f (g x)) xs ≡ signed_sum f (map g xs)
sum_map f g [] = refl
sum_map f g (x ∷ xs) = ap (λ (z : ℤ). f (g x) +ℤ z) (sum_map f g xs)

pub cut_area : (vertices ring : List Point) (ids places : List ℕ) → AreCorners (length ids) places
    → points_at vertices ids ≡ ring → area_of vertices (cut 0 places ids) ≡ turns ring
cut_area vertices ring ids places h e =
    let at : ℕ → Point = λ v. get_or vertices v origin in
    let n : length ids ≡ length ring = sym (length-map ids at) ∙ ap length e in
    sum_map side_of (points_at vertices) (cut 0 places ids)
    ∙ ap (signed_sum side_of) (map_cut at 0 origin places ids h ∙ ap (cut origin places) e)
    ∙ cut_sides places ring (subst (λ (i : ℕ). AreCorners i places) n h)

pub cap_area : (twins : Twins) (vertices ring : List Point) (ids : List ℕ) → 3 ≤ length ring
    → points_at vertices ids ≡ ring → area_of vertices (cap_by twins ring ids) ≡ turns ring
cap_area twins vertices ring ids h e =
    let at : ℕ → Point = λ v. get_or vertices v origin in
    let n : length ids ≡ length ring = sym (length-map ids at) ∙ ap length e in
    cut_area vertices ring ids (places_by twins ring)
    (subst (λ (i : ℕ). AreCorners i (places_by twins ring)) (sym n) (corners_by twins ring h)) e
