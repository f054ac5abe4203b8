-- The loop that joins rings.
use Rattle.std.proofs.Common.{◌≡◌, ℕ, zero, suc, ◌+◌, ◌*◌, ◌<◌, ◌≤◌, List, [], ◌∷◌, ◌++◌, length, take, drop, remove, sum_by, All, refl, sym, ap, ap₂, ◌∙◌, arith, get_or}
use Rattle.std.specs.List.{AllByRecursion}
use Rattle.std.proofs.lemmas.List.{length-map}
use Rattle.std.proofs.lemmas.List.Elements.{recursion_from_All, All-nil, All-append, All-take, All-drop}
use Rattle.std.proofs.lemmas.List.Sums.{sum_by-cons}
use Rattle.fku_types.specs.declared.points.Point.{Point}
use Rattle.fku_types.specs.Points.{IsInRange}
use Rattle.plane_geom.specs.declared.ring.Ring.{Ring}
use Rattle.plane_geom.specs.Rings.{RingView}
use Rattle.ring_polygons.specs.Composites.{view_at, least_bridge, join, bridged, join_others, composite, Bridge}
use Rattle.ring_polygons.proofs.BridgeLaws.{IsRingView, composite_length}
use Rattle.plane_geom.specs.RingViews.{ring_view, ring_views, IsContour}

-- one more ring is joined
pub joins_on : (ring next : RingView) (others rest : List RingView) (n p c v : ℕ) (other : RingView) →
    p ≡ (least_bridge ring others).place → c ≡ (least_bridge ring others).other → v ≡ (least_bridge ring others).vertex
    →
    view_at others c ≡ other → next ≡ bridged ring other p v → rest ≡ remove others c
    → join_others n next rest ≡ join_others (suc n) ring others
joins_on ring next others rest n p c v other ep ec ev at e r =
    let o : other ≡ view_at others (least_bridge ring others).other = sym at ∙ ap (view_at others) ec in
    let one : bridged ring other p v ≡ bridged ring (view_at others (least_bridge ring others).other) p v =
    ap (λ (x : RingView). bridged ring x p v) o in
    let two = ap₂ (λ (i j : ℕ). bridged ring (view_at others (least_bridge ring others).other) i j) ep ev in
    ap₂ (join_others n) (e ∙ one ∙ two) (r ∙ ap (remove others) ec)

pub views_remove : (rings : List Ring) (c : ℕ) → ring_views (remove rings c) ≡ remove (ring_views rings) c
views_remove [] zero = refl
views_remove [] (suc c) = refl
views_remove (r ∷ rings) zero = refl
views_remove (r ∷ rings) (suc c) = ap (λ (l : List RingView). ring_view r ∷ l) (views_remove rings c)

join_each : {X : Type 0} (P : X → Type 0) (xs ys : List X) (p v : ℕ) → All P xs → All P ys → All P (join xs ys p v)
join_each P xs ys p v a b =
    All-append P (take (p + 1) xs) (drop v ys ++ (take (v + 1) ys ++ drop p xs)) (All-take P (p + 1) xs a)
    (All-append P (drop v ys) (take (v + 1) ys ++ drop p xs) (All-drop P v ys b)
    (All-append P (take (v + 1) ys) (drop p xs) (All-take P (v + 1) ys b) (All-drop P p xs a)))

pub join_range : (xs ys : List Point) (p v : ℕ) → All IsInRange xs → All IsInRange ys → All IsInRange (join xs ys p v)
join_range xs ys p v a b = join_each IsInRange xs ys p v a b

-- the views of contours have at least three vertices
pub contours_views : (rings : List Ring) → AllByRecursion IsContour rings → AllByRecursion IsRingView (ring_views rings)
contours_views [] h = tt
contours_views (r ∷ rings) h = (
  record { same = r.one_id_each; enough = omega (arith, r.one_id_each, h.0.enough) },
  contours_views rings h.1,
)

enough_each : (rings : List Ring) → AllByRecursion IsContour rings
    → 3 * length rings ≤ sum_by (λ (r : Ring). length r.points.items) rings
enough_each [] h = omega arith
enough_each (r ∷ rings) h = omega (
  arith,
  enough_each rings h.1,
  sum_by-cons (λ (r : Ring). length r.points.items) r rings,
  h.0.enough,
)

pub few_rings : (rings : List Ring) → All IsContour rings
    → 3 * length rings ≤ sum_by (λ (r : Ring). length r.points.items) rings
few_rings rings h = enough_each rings (recursion_from_All IsContour rings h)

sum_views : (rings : List Ring) → sum_by (λ (r : RingView). length r.ids) (ring_views rings)
    ≡ sum_by (λ (r : Ring). length r.points.items) rings
sum_views [] = refl
sum_views (r ∷ rings) = omega (
  arith,
  sum_views rings,
  r.one_id_each,
  sum_by-cons (λ (r : Ring). length r.points.items) r rings,
  sum_by-cons (λ (r : RingView). length r.ids) (ring_view r) (ring_views rings),
)

-- the views of contours
pub views : (rings : List Ring) → All IsContour rings → AllByRecursion IsRingView (ring_views rings)
views rings h = contours_views rings (recursion_from_All IsContour rings h)

pub some_views : (rings : List Ring) → 0 < length rings → 0 < length (ring_views rings)
some_views rings h = omega (arith, h, length-map rings ring_view)

-- how many vertices the composite has
pub count_is : (rings : List Ring) → 0 < length rings → All IsContour rings
    → length (composite (ring_views rings)).points + 2 ≡ sum_by (λ (r : Ring). length r.points.items) rings
    + 2 * length rings
count_is rings some h =
    let k = composite_length (ring_views rings) (views rings h) (some_views rings some) in
    omega (arith, k.0, k.1.same, sum_views rings, length-map rings ring_view)

-- what holds of the ids of all rings holds of those of the composite
get_each : (P : ℕ → Type 0) (others : List RingView) (c : ℕ) → AllByRecursion (λ (l : RingView). All P l.ids) others
    → All P (view_at others c).ids
get_each P [] c h = All-nil P
get_each P (ring ∷ others) zero h = h.0
get_each P (ring ∷ others) (suc c) h = get_each P others c h.1

rest_each : (P : ℕ → Type 0) (others : List RingView) (c : ℕ) → AllByRecursion (λ (l : RingView). All P l.ids) others
    → AllByRecursion (λ (l : RingView). All P l.ids) (remove others c)
rest_each P [] zero h = h
rest_each P [] (suc c) h = h
rest_each P (ring ∷ others) zero h = h.1
rest_each P (ring ∷ others) (suc c) h = (h.0, rest_each P others c h.1)

pub others_each : (P : ℕ → Type 0) (n : ℕ) (ring : RingView) (others : List RingView) → All P ring.ids
    → AllByRecursion (λ (l : RingView). All P l.ids) others → All P (join_others n ring others).ids
others_each P zero ring others a h = a
others_each P (suc n) ring others a h =
    let b : Bridge = least_bridge ring others in
    others_each P n (bridged ring (view_at others b.other) b.place b.vertex) (remove others b.other)
    (join_each P ring.ids (view_at others b.other).ids b.place b.vertex a (get_each P others b.other h))
    (rest_each P others b.other h)

ids_each : (P : ℕ → Type 0) (rings : List Ring) → AllByRecursion (λ (r : Ring). All P r.ids.items) rings
    → AllByRecursion (λ (l : RingView). All P l.ids) (ring_views rings)
ids_each P [] h = tt
ids_each P (r ∷ rings) h = (h.0, ids_each P rings h.1)

pub composite_each : (P : ℕ → Type 0) (rings : List Ring) → All (λ (r : Ring). All P r.ids.items) rings
    → All P (composite (ring_views rings)).ids
composite_each P [] h = All-nil P
composite_each P (r ∷ rings) h =
    let each = recursion_from_All (λ (s : Ring). All P s.ids.items) (r ∷ rings) h in
    others_each P (length (ring_views rings)) (ring_view r) (ring_views rings) each.0 (ids_each P rings each.1)

-- the first ring joined with all others
pub joins_all : (rings : List Ring) (ring : Ring) (others : List Ring) → 0 < length rings → ring ≡ get_or rings 0 ring
    → others ≡ remove rings 0
    → join_others (length others) (ring_view ring) (ring_views others) ≡ composite (ring_views rings)
joins_all [] ring others l e f = absurd (omega (arith, l))
joins_all (r ∷ rings) ring others l e f =
    let size : length others ≡ length (ring_views rings) = omega (arith, ap length f, length-map rings ring_view) in
    ap (λ (n : ℕ). join_others n (ring_view ring) (ring_views others)) size
    ∙ ap₂ (λ (a : RingView) (vs : List RingView). join_others (length (ring_views rings)) a vs) (ap ring_view e)
    (ap ring_views f)
