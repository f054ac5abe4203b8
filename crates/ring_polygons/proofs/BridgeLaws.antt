-- The least bridge, and the edges of a composite contour.
use Rattle.std.proofs.Common.{◌≡◌, ℕ, zero, suc, ◌+◌, ◌*◌, ◌<◌, ◌≤◌, ◌⊎◌, inl, inr, List, [], ◌∷◌, ◌++◌, length, take, drop, remove, sum_by, refl, sym, ap, arith, subst, cond, nat_lt, length-append, length-drop}
use Rattle.std.proofs.lemmas.List.{length-take-le}
use Rattle.std.proofs.lemmas.List.Edits.{length-remove}
use Rattle.std.proofs.lemmas.List.Sums.{sum_by-remove, sum_by-cons}
use Rattle.std.proofs.lemmas.Bool.{cases_lt, lt-ltb, le-ltb, cond-true, cond-false}
use Rattle.fku_types.specs.declared.points.Point.{Point}
use Rattle.plane_geom.specs.Lengths.{distance_square}
use Rattle.plane_geom.specs.Rings.{RingView}
use Rattle.ring_polygons.specs.Composites.{no_view, ring_point_at, view_at, first_least, nearest_vertex, ring_square, nearest_ring, bridge_square, bridge_place, Bridge, least_bridge, join, bridged, join_others, composite, ids_of}
use Rattle.ring_polygons.specs.Bridges.{IsLeastBridge, IsJoinedTo, IsCompositeOf}
use Rattle.ring_polygons.specs.Bridges.IsJoinedTo.{none_left, joins}
use Rattle.std.specs.List.{AllByRecursion}
use Rattle.plane_geom.proofs.Sums.{ring_sum, total, back}
use Rattle.ring_polygons.proofs.JoinLaws.{join_sum}

-- a vertex number for each point, and at least three of them
pub record IsRingView (ring : RingView) : Type 0 where
  pub same : length ring.points ≡ length ring.ids
  pub enough : 3 ≤ length ring.ids

-- the first least number: no other below n is smaller, and those before it are greater
pub record FirstLeast (f : ℕ → ℕ) (n i : ℕ) : Type 0 where
  pub below : i < n
  pub least : (k : ℕ) → k < n → f i ≤ f k
  pub first : (k : ℕ) → k < i → f i < f k

pub first_least_is : (f : ℕ → ℕ) (n : ℕ) → 0 < n → FirstLeast f n (first_least f n)
first_least_is f zero h = absurd (omega arith)
first_least_is f (suc zero) h = one (cases_lt (f 0) (f 0))
  where
    at : (i : ℕ) → i ≡ 0 → FirstLeast f 1 i
    at i e = record {
      below = omega arith;
      least = λ k l. omega (arith, ap f e, ap f (let z : k ≡ 0 = omega arith in z));
      first = λ k l. absurd (omega arith);
    }

    one : (f 0 < f 0) ⊎ (f 0 ≤ f 0) → FirstLeast f 1 (cond (nat_lt (f 0) (f 0)) 0 0)
    one (inl l) = at (cond (nat_lt (f 0) (f 0)) 0 0) (cond-true {A = ℕ} (nat_lt (f 0) (f 0)) 0 0 (lt-ltb (f 0) (f 0) l))
    one (inr l) = at (cond (nat_lt (f 0) (f 0)) 0 0)
        (cond-false {A = ℕ} (nat_lt (f 0) (f 0)) 0 0 (le-ltb (f 0) (f 0) l))
first_least_is f (suc (suc n)) h =
    next f (suc n) (first_least f (suc n)) (first_least_is f (suc n) (omega arith))
    (cases_lt (f (suc n)) (f (first_least f (suc n))))
  where
    next : (f : ℕ → ℕ) (n i : ℕ) → FirstLeast f n i → (f n < f i) ⊎ (f i ≤ f n)
        → FirstLeast f (suc n) (cond (nat_lt (f n) (f i)) n i)
    next f n i h (inl l) =
        subst (FirstLeast f (suc n)) (sym (cond-true {A = ℕ} (nat_lt (f n) (f i)) n i (lt-ltb (f n) (f i) l)))
        (record {
          below = omega arith;
          least = λ k b. elim (cases_lt k n) [
            | inl lt ↦ omega (arith, h.least k lt)
            | inr ge ↦ omega (arith, ap f (let z : k ≡ n = omega arith in z))
          ];
          first = λ k b. omega (arith, h.least k b);
        })
    next f n i h (inr l) =
        subst (FirstLeast f (suc n)) (sym (cond-false {A = ℕ} (nat_lt (f n) (f i)) n i (le-ltb (f n) (f i) l)))
        (record {
          below = omega (arith, h.below);
          least = λ k b. elim (cases_lt k n)
              [ inl lt ↦ h.least k lt | inr ge ↦ omega (arith, ap f (let z : k ≡ n = omega arith in z)) ];
          first = h.first;
        })

-- the ends of the least bridge exist
pub record BridgeEnds (ring : RingView) (others : List RingView) (b : Bridge) : Type 0 where
  pub place : b.place < length ring.points
  pub other : b.other < length others
  pub vertex : b.vertex < length (view_at others b.other).points

pub view_get : (others : List RingView) (i : ℕ) → AllByRecursion IsRingView others → i < length others
    → IsRingView (view_at others i)
view_get [] i h l = absurd (omega arith)
view_get (ring ∷ others) zero h l = h.0
view_get (ring ∷ others) (suc i) h l = view_get others i h.1 (omega arith)

pub least_bridge_ends : (ring : RingView) (others : List RingView) → IsRingView ring → AllByRecursion IsRingView others
    → 0 < length others → BridgeEnds ring others (least_bridge ring others)
unfolding least_bridge
least_bridge_ends ring others r o some =
    let p : ℕ = bridge_place ring others in
    let place = first_least_is (bridge_square ring others) (length ring.points) (omega (arith, r.same, r.enough)) in
    let at : Point = ring_point_at ring p in
    let other = first_least_is (λ (c : ℕ). ring_square at (view_at others c)) (length others) some in
    let c : RingView = view_at others (nearest_ring at others) in
    let k : IsRingView c = view_get others (nearest_ring at others) o other.below in
    let vertex = first_least_is (λ (v : ℕ). distance_square at (ring_point_at c v)) (length c.points)
    (omega (arith, k.same, k.enough)) in
    record { place = place.below; other = other.below; vertex = vertex.below }

pub join-length : {X : Type 0} (xs ys : List X) (p v : ℕ) → p < length xs → v < length ys
    → length (join xs ys p v) ≡ length xs + length ys + 2
join-length xs ys p v lp lv =
    omega (
      arith,
      length-append (take (p + 1) xs) (drop v ys ++ (take (v + 1) ys ++ drop p xs)),
      length-append (drop v ys) (take (v + 1) ys ++ drop p xs),
      length-append (take (v + 1) ys) (drop p xs),
      length-take-le (p + 1) xs (omega arith),
      length-take-le (v + 1) ys (omega arith),
      length-drop v ys,
      length-drop p xs,
    )

pub joined_view : (ring other : RingView) (p v : ℕ) → IsRingView ring → IsRingView other → p < length ring.points
    → v < length other.points → IsRingView (bridged ring other p v)
joined_view ring other p v r o lp lv =
    let a = join-length ring.points other.points p v lp lv in
    let b = join-length ring.ids other.ids p v (omega (arith, r.same)) (omega (arith, o.same)) in
    record { same = omega (arith, a, b, r.same, o.same); enough = omega (arith, b, r.enough) }

pub remove_all : (others : List RingView) (i : ℕ) → AllByRecursion IsRingView others
    → AllByRecursion IsRingView (remove others i)
remove_all [] zero h = h
remove_all [] (suc i) h = h
remove_all (ring ∷ others) zero h = h.1
remove_all (ring ∷ others) (suc i) h = (h.0, remove_all others i h.1)

remove_total : (f : ℕ → ℕ → ℕ) (others : List RingView) (i : ℕ) → i < length others
    → total f (ids_of others) ≡ ring_sum f (view_at others i).ids + total f (ids_of (remove others i))
remove_total f [] i l = absurd (omega arith)
remove_total f (ring ∷ others) zero l = refl
remove_total f (ring ∷ others) (suc i) l = omega (arith, remove_total f others i (omega arith))

-- the joined ring has the edges of the rings, and each bridge in both directions
join_others_total : (f : ℕ → ℕ → ℕ) (n : ℕ) (ring : RingView) (others : List RingView) → n ≡ length others
    → IsRingView ring → AllByRecursion IsRingView others →
    ring_sum f (join_others n ring others).ids + (ring_sum (back f) ring.ids + total (back f) (ids_of others))
    ≡ ring_sum (back f) (join_others n ring others).ids + (ring_sum f ring.ids + total f (ids_of others))
join_others_total f zero ring [] e r o = omega arith
join_others_total f zero ring (other ∷ others) e r o = absurd (omega arith)
join_others_total f (suc n) ring others e r o =
    let b : Bridge = least_bridge ring others in
    let other : RingView = view_at others b.other in
    let ends : BridgeEnds ring others b = least_bridge_ends ring others r o (omega arith) in
    let k : IsRingView other = view_get others b.other o ends.other in
    let next : RingView = bridged ring other b.place b.vertex in
    let rest = join_others_total f n next (remove others b.other)
    (omega (arith, length-remove others b.other ends.other))
    (joined_view ring other b.place b.vertex r k ends.place ends.vertex) (remove_all others b.other o) in
    let forth = join_sum f ring.ids other.ids b.place b.vertex 0 (omega (arith, ends.place, r.same))
    (omega (arith, ends.vertex, k.same)) in
    let back_again = join_sum (back f) ring.ids other.ids b.place b.vertex 0 (omega (arith, ends.place, r.same))
    (omega (arith, ends.vertex, k.same)) in
    omega (
      arith,
      rest,
      forth,
      back_again,
      remove_total f others b.other ends.other,
      remove_total (back f) others b.other ends.other,
    )

-- so bridges cancel
pub composite_total : (f : ℕ → ℕ → ℕ) (rings : List RingView) → AllByRecursion IsRingView rings
    → ring_sum f (composite rings).ids + total (back f) (ids_of rings) ≡ ring_sum (back f) (composite rings).ids
    + total f (ids_of rings)
composite_total f [] h = refl
composite_total f (ring ∷ others) h = join_others_total f (length others) ring others refl h.0 h.1

-- how long a composite is
others_length : (n : ℕ) (ring : RingView) (others : List RingView) → n ≡ length others → IsRingView ring
    → AllByRecursion IsRingView others →
    (length (join_others n ring others).ids ≡ length ring.ids + sum_by (λ (r : RingView). length r.ids) others + 2 * n)
    × IsRingView (join_others n ring others)
others_length zero ring [] e r o = (omega arith, r)
others_length zero ring (other ∷ others) e r o = absurd (omega arith)
others_length (suc n) ring others e r o =
    let b : Bridge = least_bridge ring others in
    let other : RingView = view_at others b.other in
    let ends : BridgeEnds ring others b = least_bridge_ends ring others r o (omega arith) in
    let k : IsRingView other = view_get others b.other o ends.other in
    let next : RingView = bridged ring other b.place b.vertex in
    let rest = others_length n next (remove others b.other) (omega (arith, length-remove others b.other ends.other))
    (joined_view ring other b.place b.vertex r k ends.place ends.vertex) (remove_all others b.other o) in
    let size = join-length ring.ids other.ids b.place b.vertex (omega (arith, ends.place, r.same))
    (omega (arith, ends.vertex, k.same)) in (
      omega (arith, rest.0, size, sum_by-remove (λ (r : RingView). length r.ids) others b.other no_view ends.other),
      rest.1,
    )

pub composite_length : (rings : List RingView) → AllByRecursion IsRingView rings → 0 < length rings →
    (length (composite rings).ids + 2 ≡ sum_by (λ (r : RingView). length r.ids) rings + 2 * length rings)
    × IsRingView (composite rings)
composite_length [] h some = absurd (omega arith)
composite_length (ring ∷ others) h some =
    let k = others_length (length others) ring others refl h.0 h.1 in
    (omega (arith, k.0, sum_by-cons (λ (r : RingView). length r.ids) ring others), k.1)

-- the chosen bridge is least
pub least_bridge_is : (ring : RingView) (others : List RingView) → IsRingView ring → AllByRecursion IsRingView others
    → 0 < length others → IsLeastBridge ring others (least_bridge ring others)
unfolding least_bridge
least_bridge_is ring others r o some =
    let i : ℕ = bridge_place ring others in
    let at : ℕ → Point = ring_point_at ring in
    let by_place : FirstLeast (bridge_square ring others) (length ring.points) i =
    first_least_is (bridge_square ring others) (length ring.points) (omega (arith, r.same, r.enough)) in
    let by_ring : (p : ℕ) → FirstLeast (λ (c : ℕ). ring_square (at p) (view_at others c)) (length others)
    (nearest_ring (at p) others) = λ p.
    first_least_is (λ (c : ℕ). ring_square (at p) (view_at others c)) (length others) some in
    let by_vertex : (p c : ℕ) → c < length others
    → FirstLeast (λ (v : ℕ). distance_square (at p) (ring_point_at (view_at others c) v))
    (length (view_at others c).points) (nearest_vertex (at p) (view_at others c)) =
    λ p c l. let k : IsRingView (view_at others c) = view_get others c o l in
    first_least_is (λ (v : ℕ). distance_square (at p) (ring_point_at (view_at others c) v))
    (length (view_at others c).points) (omega (arith, k.same, k.enough)) in
    let c₀ : ℕ = nearest_ring (at i) others in
    record {
      place = by_place.below;
      other = (by_ring i).below;
      vertex = (by_vertex i c₀ (by_ring i).below).below;
      least = λ p c v lp lc lv. omega (
        arith,
        by_place.least p lp,
        (by_ring p).least c lc,
        (by_vertex p c lc).least v lv,
      );
      first_place = λ p c v lp lc lv e. elim (cases_lt p i) [
        | inl lt ↦ absurd (omega (arith, e, by_place.first p lt, (by_ring p).least c lc, (by_vertex p c lc).least v lv))
        | inr ge ↦ ge
      ];
      first_ring = λ c v lc lv e. elim (cases_lt c c₀) [
        | inl lt ↦ absurd (omega (arith, e, (by_ring i).first c lt, (by_vertex i c lc).least v lv))
        | inr ge ↦ ge
      ];
      first_vertex = λ v lv e. elim (cases_lt v (nearest_vertex (at i) (view_at others c₀))) [
        | inl lt ↦ absurd (omega (arith, e, (by_vertex i c₀ (by_ring i).below).first v lt))
        | inr ge ↦ ge
      ];
    }

joined_is : (n : ℕ) (ring : RingView) (others : List RingView) → n ≡ length others → IsRingView ring
    → AllByRecursion IsRingView others → IsJoinedTo ring others (join_others n ring others)
joined_is zero ring [] e r o = none_left ring
joined_is zero ring (other ∷ others) e r o = absurd (omega arith)
joined_is (suc n) ring others e r o =
    let b : Bridge = least_bridge ring others in
    let other : RingView = view_at others b.other in
    let ends : BridgeEnds ring others b = least_bridge_ends ring others r o (omega arith) in
    let k : IsRingView other = view_get others b.other o ends.other in
    let next : RingView = bridged ring other b.place b.vertex in
    joins ring others b (join_others n next (remove others b.other)) (least_bridge_is ring others r o (omega arith))
    (joined_is n next (remove others b.other) (omega (arith, length-remove others b.other ends.other))
    (joined_view ring other b.place b.vertex r k ends.place ends.vertex) (remove_all others b.other o))

-- the composite is joined by the rule
pub composite_is : (rings : List RingView) → AllByRecursion IsRingView rings → 0 < length rings
    → IsCompositeOf rings (composite rings)
composite_is [] h some = absurd (omega arith)
composite_is (ring ∷ others) h some = joined_is (length others) ring others refl h.0 h.1
