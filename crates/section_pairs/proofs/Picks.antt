-- Rings at some places.
use Rattle.std.proofs.Common.{◌≡◌, ℕ, zero, suc, ◌+◌, ◌<◌, ◌≤◌, List, [], ◌∷◌, length, drop, sum_by, refl, sym, ap, arith, subst}
use Rattle.std.specs.List.{AllByRecursion}
use Rattle.std.proofs.lemmas.List.{length-map}
use Rattle.std.proofs.lemmas.List.Sums.{sum_by-cons, sum_by-drop_more, sum_by-take-drop}
use Rattle.plane_geom.specs.Rings.{RingView}
use Rattle.plane_geom.specs.RingViews.{ring_view, ring_views}
use Rattle.plane_geom.specs.declared.ring.Ring.{Ring}
use Rattle.ring_polygons.specs.Composites.{view_at, no_view}
use Rattle.correspondence.specs.Components.{IsRising}
use Rattle.section_pairs.specs.Rings.{pick, ArePicked}

-- how many points the rings have
abbrev pub points_in : List Ring → ℕ
points_in rings = sum_by (λ (r : Ring). length r.points.items) rings

abbrev pub size : RingView → ℕ
size r = length r.points

pub sizes_are : (rings : List Ring) → sum_by size (ring_views rings) ≡ points_in rings
sizes_are [] = refl
sizes_are (r ∷ rs) = omega (
  arith,
  sizes_are rs,
  sum_by-cons (λ (x : Ring). length x.points.items) r rs,
  sum_by-cons size (ring_view r) (ring_views rs),
)

drop_less : {X : Type 0} (f : X → ℕ) (xs : List X) (j k : ℕ) → j ≤ k → sum_by f (drop k xs) ≤ sum_by f (drop j xs)
drop_less f xs zero k l = omega (arith, sum_by-take-drop f xs k)
drop_less f [] (suc j) (suc k) l = omega arith
drop_less f (x ∷ xs) (suc j) (suc k) l = drop_less f xs j k (omega (arith, l))
drop_less f xs (suc j) zero l = absurd (omega (arith, l))

-- the places after one of them have at most as many points as the rings after it
behind : (xs : List RingView) (ks : List ℕ) (b : ℕ) → IsRising ks → AllByRecursion (λ k. b < k) ks
    → AllByRecursion (λ k. k < length xs) ks → sum_by size (pick xs ks) ≤ sum_by size (drop (b + 1) xs)
behind xs [] b r m l = omega arith
behind xs (k ∷ ks) b r m l =
    omega (
      arith,
      behind xs ks k r.1 r.0 l.1,
      sum_by-drop_more size xs k no_view l.0,
      sum_by-cons size (view_at xs k) (pick xs ks),
      drop_less size xs (b + 1) k (omega (arith, m.0)),
    )

picked_less : (xs : List RingView) (ks : List ℕ) → IsRising ks → AllByRecursion (λ k. k < length xs) ks
    → sum_by size (pick xs ks) ≤ sum_by size xs
picked_less xs [] r l = omega arith
picked_less xs (k ∷ ks) r l =
    omega (
      arith,
      behind xs ks k r.1 r.0 l.1,
      sum_by-drop_more size xs k no_view l.0,
      sum_by-cons size (view_at xs k) (pick xs ks),
      drop_less size xs 0 k (omega arith),
    )

-- rings at rising places have at most as many points as all
pub picked_few : (rings picked : List Ring) (places : List ℕ) → ArePicked (length rings) places
    → ring_views picked ≡ pick (ring_views rings) places → points_in picked ≤ points_in rings
picked_few rings picked places h e =
    let l : AllByRecursion (λ k. k < length (ring_views rings)) places =
    subst (λ (n : ℕ). AllByRecursion (λ k. k < n) places) (sym (length-map rings ring_view)) h.there in
    omega (
      arith,
      picked_less (ring_views rings) places h.rising l,
      sizes_are rings,
      sizes_are picked,
      ap (sum_by size) e,
    )

pub picked_some : (rings picked : List Ring) (places : List ℕ) → ArePicked (length rings) places
    → ring_views picked ≡ pick (ring_views rings) places → 0 < length picked
picked_some rings picked places h e =
    omega (arith, h.some, length-map picked ring_view, ap length e, length-map places (view_at (ring_views rings)))
