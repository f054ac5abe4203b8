-- The rings of a section, contour by contour.
use Rattle.std.proofs.Common.{◌≡◌, ◌+◌, ◌-◌, ◌≤◌, ◌<◌, ◌∙◌, ℕ, zero, suc, true, false, if◌then◌else◌, List, [], ◌∷◌, ◌++◌, map, length, sum_by, All, subst, refl, ap, ap₂, sym, arith}
use Rattle.std.specs.List.{range_with_len}
use Rattle.std.proofs.lemmas.List.{length-map, map-append, length-reverse, get_or-reverse}
use Rattle.std.proofs.lemmas.List.Elements.{All-append}
use Rattle.std.proofs.lemmas.List.Sums.{sum_by-cons, sum_by_more, sum_by_more_le}
use Rattle.std.proofs.lemmas.List.FromFn.{map-range_with_len_more}
use Rattle.fku_types.specs.declared.points.Point.{Point}
use Rattle.fku_types.specs.Points.{IsInRange}
use Rattle.section_core.specs.declared.parts.Contour.{Contour}
use Rattle.plane_geom.specs.declared.ring.Ring.{Ring}
use Rattle.plane_geom.specs.Rings.{RingView}
use Rattle.plane_geom.specs.RingViews.{ring_view, ring_views, IsContour}
use Rattle.correspondence.specs.Contours.{points_of, contour_at, IsOutline}
use Rattle.correspondence.specs.Nesting.{depth, is_turned, turned, ring_from, ring_at, first_id, oriented}
use Rattle.correspondence.proofs.Nested.{length-turned}

All-turned : {X : Type 0} (P : X → Type 0) (xs : List X) → All P xs → All P (turned xs)
All-turned P [] h k d l = absurd (omega arith)
All-turned P (x ∷ xs) h zero d l = h 0 d (omega arith)
All-turned P (x ∷ xs) h (suc k) d l =
    let within : k < length xs = omega (arith, length-reverse xs) in
    subst P (sym (get_or-reverse xs k d within)) (h (suc (length xs - 1 - k)) d (omega arith))

-- the ring of a contour has its points, turned or not
ring_points : (d first : ℕ) (points : List Point) → IsOutline points → IsOutline (ring_from d first points).points
unfolding ring_from
ring_points d first points h =
    let P : RingView → Type 0 = λ l. IsOutline l.points in
    elim (is_turned d points) as (λ b.
    P (if b then record { points = turned points; ids = turned (range_with_len first (length points)) } else record
    { points = points; ids = range_with_len first (length points) })) [
      | true ↦ record {
        enough = omega (arith, length-turned points, h.enough);
        few =
            omega (arith, length-turned points, h.few);
        in_range = All-turned IsInRange points h.in_range;
      }
      | false ↦ h
    ]

pub is_contour : (d first : ℕ) (points : List Point) (r : Ring) → IsOutline points
    → ring_view r ≡ ring_from d first points → IsContour r
is_contour d first points r h e =
    let o : IsOutline r.points.items =
    subst (λ (l : RingView). IsOutline l.points) (sym e) (ring_points d first points h) in
    record { enough = o.enough; few = o.few; in_range = o.in_range }

-- one more contour
pub rings_more : (first place d id : ℕ) (contours : List (List Point)) (points : List Point) (rings after : List Ring)
    (r : Ring) → points ≡ contour_at contours place → d ≡ depth contours place → id ≡ first_id first contours place
    → ring_view r ≡ ring_from d id points → after ≡ rings ++ r ∷ []
    → ring_views rings ≡ map (ring_at first contours) (range_with_len 0 place)
    → ring_views after ≡ map (ring_at first contours) (range_with_len 0 (place + 1))
rings_more first place d id contours points rings after r p e f g h k =
    let same : ring_from d id points ≡ ring_at first contours place = ap₂ (λ (x y : ℕ). ring_from x y points) e f
    ∙ ap (ring_from (depth contours place) (first_id first contours place)) p in
    ap (map ring_view) h ∙ map-append ring_view rings (r ∷ [])
    ∙ ap₂ (λ (l : List RingView) (x : RingView). l ++ x ∷ []) k (g ∙ same)
    ∙ sym (map-range_with_len_more (ring_at first contours) 0 place place (omega arith))

pub contours_more : (rings after : List Ring) (r : Ring) → after ≡ rings ++ r ∷ [] → All IsContour rings → IsContour r
    → All IsContour after
contours_more rings after r e h k = subst (All IsContour) (sym e) (All-append IsContour rings (r ∷ []) h (one r k))
  where
    one : (r : Ring) → IsContour r → All IsContour (r ∷ [])
    one r k zero d l = k
    one r k (suc j) d l = absurd (omega arith)

sum_by-points : (cs : List Contour)
    → sum_by (λ (c : List Point). length c) (map points_of cs) ≡ sum_by (λ (c : Contour). length (points_of c)) cs
sum_by-points [] = refl
sum_by-points (c ∷ cs) =
    omega (
      arith,
      sum_by-cons (λ (c : List Point). length c) (points_of c) (map points_of cs),
      sum_by-cons (λ (c : Contour). length (points_of c)) c cs,
      sum_by-points cs,
    )

-- the id after one more contour, which stays within the sum
pub id_more : (first place id : ℕ) (cs : List Contour) (points : List Point) → place < length cs
    → points ≡ contour_at (map points_of cs) place → id ≡ first_id first (map points_of cs) place
    → (id + length points ≡ first_id first (map points_of cs) (place + 1))
    × (id + length points ≤ first + sum_by (λ (c : Contour). length (points_of c)) cs)
id_more first place id cs points h p e =
    let contours = map points_of cs in
    let within : place < length contours = omega (arith, length-map cs points_of) in
    let more = sum_by_more (λ (c : List Point). length c) contours place [] within in
    let below = sum_by_more_le (λ (c : List Point). length c) contours place [] within in
    let size : length points ≡ length (contour_at contours place) = ap length p in
    (omega (arith, e, more, size), omega (arith, e, below, size, sum_by-points cs))

pub all_rings : (first n : ℕ) (cs : List Contour) (rings : List RingView) → n ≡ length cs
    → rings ≡ map (ring_at first (map points_of cs)) (range_with_len 0 n) → rings ≡ oriented first (map points_of cs)
unfolding oriented
all_rings first n cs rings e h = h
    ∙ ap (λ (k : ℕ). map (ring_at first (map points_of cs)) (range_with_len 0 k)) (e ∙ sym (length-map cs points_of))
