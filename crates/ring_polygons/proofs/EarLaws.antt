-- The search finds the first ear that the rule names, and the cap is cut by the rule.
use Rattle.std.proofs.Common.{◌≡◌, refl, ap₂, ℕ, zero, suc, ◌+◌, ◌-◌, ◌<◌, ◌≤◌, ◌⊎◌, inl, inr, ◌==◌, ◌&&◌, ◌||◌, not, Bool, true, false, Option, List, length, remove, ℤ, pos, ◌*ℤ◌, ◌<ℤ◌, ◌≤ℤ◌, int_lt, int_le, sym, ap, ◌∙◌, arith, subst, eqb-true, eq-eqb}
use Rattle.std.specs.Prelude.{unwrap_or}
use Rattle.std.specs.List.{list_all, range_with_len}
use Rattle.std.specs.Ordering.{int_eq}
use Rattle.std.proofs.lemmas.Int.{ints}
use Rattle.std.proofs.lemmas.Bool.{both_ways, and_right, cases_Bool, and_parts, and_from, or_cases, not-true, not_from_false, or_left, or_right}
use Rattle.std.proofs.lemmas.List.Edits.{length-remove}
use Rattle.fku_types.specs.declared.points.Point.{Point}
use Rattle.fku_types.proofs.TruthLaws.{int_eq_is}
use Rattle.plane_geom.specs.Rings.{origin}
use Rattle.plane_geom.specs.Planes.{side, side_of}
use Rattle.ring_polygons.specs.declared.twins.Twins.{Twins}
use Rattle.ring_polygons.specs.declared.twins.Twins.TheVariants.{Hinder, Pass}
use Rattle.ring_polygons.specs.Caps.{corner, cut, sign_of, is_within, same_point, is_twin, pass, hinders, is_ear, ear_place, ear_places, places_by, cap_by}
use Rattle.ring_polygons.specs.Ears.{place_before, place_after, point_at, IsInTriangle, IsTwin, CanHinder, IsEar, IsCutNext, IsCutBy}
use Rattle.ring_polygons.specs.Ears.IsCutNext.{first_ear, no_ear}
use Rattle.ring_polygons.specs.Ears.IsCutBy.{last, next}
use Rattle.ring_polygons.proofs.Ranges.{all_pass, one_passes, First, first_or_none, first_found, none_found}
use Rattle.ring_polygons.proofs.CapLaws.{ear_place_below}

not_negative : (x : ℤ) → int_le (pos 0) x ≡ true → pos 0 ≤ℤ x
not_negative x h = omega (arith, ints)

not_negative_test : (x : ℤ) → pos 0 ≤ℤ x → int_le (pos 0) x ≡ true
not_negative_test x h = sym (let k : true ≡ int_le (pos 0) x = omega (arith, ints) in k)

positive : (x : ℤ) → int_lt (pos 0) x ≡ true → pos 0 <ℤ x
positive x h = omega (arith, ints)

positive_test : (x : ℤ) → pos 0 <ℤ x → int_lt (pos 0) x ≡ true
positive_test x h = sym (let k : true ≡ int_lt (pos 0) x = omega (arith, ints) in k)

within_is : (s : ℤ) (a b c p : Point) → is_within s a b c p ≡ true → IsInTriangle s a b c p
within_is s a b c p h =
    let x : Bool = int_le (pos 0) (s *ℤ side a b p) in
    let y : Bool = int_le (pos 0) (s *ℤ side b c p) in
    let z : Bool = int_le (pos 0) (s *ℤ side c a p) in
    let two = and_parts (x && y) z h in
    let one = and_parts x y two.0 in
    record {
      first = not_negative (s *ℤ side a b p) one.0;
      second = not_negative (s *ℤ side b c p) one.1;
      third = not_negative (s *ℤ side c a p) two.1;
    }

within_test : (s : ℤ) (a b c p : Point) → IsInTriangle s a b c p → is_within s a b c p ≡ true
within_test s a b c p h =
    let x : Bool = int_le (pos 0) (s *ℤ side a b p) in
    let y : Bool = int_le (pos 0) (s *ℤ side b c p) in
    let z : Bool = int_le (pos 0) (s *ℤ side c a p) in
    and_from (x && y) z (and_from x y (not_negative_test (s *ℤ side a b p) h.first)
    (not_negative_test (s *ℤ side b c p) h.second))
    (not_negative_test (s *ℤ side c a p) h.third)

-- a place that is none of three
none_of_test : (k a b c : ℕ) → (k ≡ a → ⊥) → (k ≡ b → ⊥) → (k ≡ c → ⊥) → not ((k == a) || (k == b) || (k == c)) ≡ true
none_of_test k a b c p q r =
    let x : Bool = k == a in
    let y : Bool = k == b in
    let z : Bool = k == c in
    let n : (x || y || z) ≡ false = elim (cases_Bool (x || y || z)) [
      | inl t ↦ absurd (elim (or_cases (x || y) z t) [
        | inl u ↦ elim (or_cases x y u) [ inl e ↦ p (eqb-true k a e) | inr e ↦ q (eqb-true k b e) ]
        | inr e ↦ r (eqb-true k c e)
      ])
      | inr f ↦ f
    ] in
    not_from_false (x || y || z) n

-- ---- twins
eq_test : (a : ℤ) → int_eq a a ≡ true
eq_test a = grind (arith, ints)

one_point : (p q : Point) → same_point p q ≡ true → p ≡ q
one_point p q e =
    let x = and_parts (int_eq p.x q.x) (int_eq p.y q.y && int_eq p.z q.z) e in
    let y = and_parts (int_eq p.y q.y) (int_eq p.z q.z) x.1 in
    ap₂ (λ (a b : ℤ). let r : Point = record { x = a; y = b; z = p.z } in r) (int_eq_is p.x q.x x.0)
    (int_eq_is p.y q.y y.0)
    ∙ ap (λ (a : ℤ). let r : Point = record { x = q.x; y = q.y; z = a } in r) (int_eq_is p.z q.z y.1)

same_test : (p q : Point) → p ≡ q → same_point p q ≡ true
same_test p q e =
    ap (same_point p) (sym e) ∙ and_from (int_eq p.x p.x) (int_eq p.y p.y && int_eq p.z p.z) (eq_test p.x)
    (and_from (int_eq p.y p.y) (int_eq p.z p.z) (eq_test p.y) (eq_test p.z))

twin_is : (ring : List Point) (t k : ℕ) → is_twin ring t k ≡ true → IsTwin ring t k
twin_is ring t k h =
    let n : ℕ = length ring in
    let p : Point = point_at ring k in
    let a : Point = point_at ring (place_before n t) in
    let b : Point = point_at ring t in
    let c : Point = point_at ring (place_after n t) in
    elim (or_cases (same_point p a || same_point p b) (same_point p c) h) [
      | inl u ↦ elim (or_cases (same_point p a) (same_point p b) u)
          [ inl e ↦ inl (one_point p a e) | inr e ↦ inr (inl (one_point p b e)) ]
      | inr e ↦ inr (inr (one_point p c e))
    ]

twin_test : (ring : List Point) (t k : ℕ) → IsTwin ring t k → is_twin ring t k ≡ true
twin_test ring t k (inl e) =
    let n : ℕ = length ring in
    let p : Point = point_at ring k in
    or_left (same_point p (point_at ring (place_before n t)) || same_point p (point_at ring t))
    (same_point p (point_at ring (place_after n t)))
    (or_left (same_point p (point_at ring (place_before n t))) (same_point p (point_at ring t))
    (same_test p (point_at ring (place_before n t)) e))
twin_test ring t k (inr (inl e)) =
    let n : ℕ = length ring in
    let p : Point = point_at ring k in
    or_left (same_point p (point_at ring (place_before n t)) || same_point p (point_at ring t))
    (same_point p (point_at ring (place_after n t)))
    (or_right (same_point p (point_at ring (place_before n t))) (same_point p (point_at ring t))
    (same_test p (point_at ring t) e))
twin_test ring t k (inr (inr e)) =
    let n : ℕ = length ring in
    let p : Point = point_at ring k in
    or_right (same_point p (point_at ring (place_before n t)) || same_point p (point_at ring t))
    (same_point p (point_at ring (place_after n t))) (same_test p (point_at ring (place_after n t)) e)

-- a vertex is passed exactly if it is a twin and twins are passed
not_passed : (w : Twins) (ring : List Point) (t k : ℕ) → not (pass w && is_twin ring t k) ≡ true → w ≡ Pass
    → IsTwin ring t k → ⊥
not_passed w ring t k h e twin =
    let both : (pass w && is_twin ring t k) ≡ true =
    and_from (pass w) (is_twin ring t k) (ap pass e) (twin_test ring t k twin) in
    both_ways (pass w && is_twin ring t k) (not-true (pass w && is_twin ring t k) h) both

not_passed_test : (w : Twins) (ring : List Point) (t k : ℕ) → (w ≡ Pass → IsTwin ring t k → ⊥)
    → not (pass w && is_twin ring t k) ≡ true
not_passed_test Hinder ring t k h = refl
not_passed_test Pass ring t k h =
    elim (cases_Bool (is_twin ring t k)) [
      | inl some ↦ absurd (h refl (twin_is ring t k some))
      | inr none ↦ not_from_false (true && is_twin ring t k) (and_right true (is_twin ring t k) none)
    ]

-- ---- vertices that block an ear
-- the vertex at place k lies in the closed triangle of the corner at place t
abbrev in_corner : ℤ → List Point → ℕ → ℕ → Bool
in_corner s ring t k = is_within s (point_at ring (place_before (length ring) t)) (point_at ring t)
    (point_at ring (place_after (length ring) t)) (point_at ring k)

abbrev InCorner : ℤ → List Point → ℕ → ℕ → Type 0
InCorner s ring t k = IsInTriangle s (point_at ring (place_before (length ring) t)) (point_at ring t)
    (point_at ring (place_after (length ring) t)) (point_at ring k)

-- the vertex at place k blocks by the test exactly if it does by the rule
hinders_is : (w : Twins) (s : ℤ) (ring : List Point) (t k : ℕ) → k < length ring → hinders w s ring t k ≡ true
    → CanHinder w ring t k × InCorner s ring t k
hinders_is w s ring t k l h =
    let n : ℕ = length ring in
    let a : ℕ = place_before n t in
    let c : ℕ = place_after n t in
    let x : Bool = k == a in
    let y : Bool = k == t in
    let z : Bool = k == c in
    let inside : Bool = in_corner s ring t k in
    let free : Bool = not (pass w && is_twin ring t k) in
    let all = and_parts (not (x || y || z) && inside) free h in
    let parts = and_parts (not (x || y || z)) inside all.0 in
    let none : (x || y || z) ≡ false = not-true (x || y || z) parts.0 in (
      record {
        there = l;
        not_before = λ e. both_ways (x || y || z) none (or_left (x || y) z (or_left x y (eq-eqb k a e)));
        not_at = λ e. both_ways (x || y || z) none (or_left (x || y) z (or_right x y (eq-eqb k t e)));
        not_after = λ e. both_ways (x || y || z) none (or_right (x || y) z (eq-eqb k c e));
        no_twin = not_passed w ring t k all.1;
      },
      within_is s (point_at ring a) (point_at ring t) (point_at ring c) (point_at ring k) parts.1,
    )

hinders_test : (w : Twins) (s : ℤ) (ring : List Point) (t k : ℕ) → CanHinder w ring t k → InCorner s ring t k
    → hinders w s ring t k ≡ true
hinders_test w s ring t k h within =
    let n : ℕ = length ring in
    let a : ℕ = place_before n t in
    let c : ℕ = place_after n t in
    let other : Bool = not ((k == a) || (k == t) || (k == c)) in
    and_from (other && in_corner s ring t k) (not (pass w && is_twin ring t k))
    (and_from other (in_corner s ring t k) (none_of_test k a t c h.not_before h.not_at h.not_after)
    (within_test s (point_at ring a) (point_at ring t) (point_at ring c) (point_at ring k) within))
    (not_passed_test w ring t k h.no_twin)

pub ear_is : (w : Twins) (s : ℤ) (ring : List Point) (t : ℕ) → t < length ring → is_ear w s ring t ≡ true
    → IsEar w s ring t
unfolding is_ear
ear_is w s ring t l h =
    let free : ℕ → Bool = λ k. not (hinders w s ring t k) in
    let parts = and_parts (int_lt (pos 0) (s *ℤ side_of (corner origin ring t)))
    (list_all free (range_with_len 0 (length ring))) h in
    record {
      there = l;
      turns = positive (s *ℤ side_of (corner origin ring t)) parts.0;
      empty = λ k can within.
          let passed : free k ≡ true = one_passes free 0 (length ring) k (omega arith) (omega (arith, can.there))
          parts.1 in
          let free_of : hinders w s ring t k ≡ false = not-true (hinders w s ring t k) passed in
          let held : hinders w s ring t k ≡ true = hinders_test w s ring t k can within in
          both_ways (hinders w s ring t k) free_of held;
    }

pub ear_test : (w : Twins) (s : ℤ) (ring : List Point) (t : ℕ) → IsEar w s ring t → is_ear w s ring t ≡ true
unfolding is_ear
ear_test w s ring t h =
    let free : ℕ → Bool = λ k. not (hinders w s ring t k) in
    and_from (int_lt (pos 0) (s *ℤ side_of (corner origin ring t))) (list_all free (range_with_len 0 (length ring)))
    (positive_test (s *ℤ side_of (corner origin ring t)) h.turns)
    (all_pass free 0 (length ring) (λ k l b. elim (cases_Bool (hinders w s ring t k)) [
      | inl some ↦ (let both = hinders_is w s ring t k (omega arith) some in absurd (h.empty k both.0 both.1))
      | inr none ↦ not_from_false (hinders w s ring t k) none
    ]))

-- the place found is the one that the rule names
pub cut_next : (w : Twins) (s : ℤ) (ring : List Point) → IsCutNext w s ring (ear_place w s ring)
cut_next w s ring = at (first_or_none test 0 (length ring))
  where
    test : ℕ → Bool
    test = is_ear w s ring

    at : First test 0 (length ring) ⊎ ((k : ℕ) → 0 ≤ k → k < 0 + length ring → test k ≡ false)
        → IsCutNext w s ring (ear_place w s ring)
    at (inl f) =
        let e : ear_place w s ring ≡ f.place =
        ap (λ (o : Option ℕ). unwrap_or o 0)
        (first_found test 0 (length ring) f.place f.after f.below f.earlier f.passes) in
        subst (IsCutNext w s ring) (sym e)
        (first_ear f.place (ear_is w s ring f.place (omega (arith, f.below)) f.passes)
        (λ k l h. both_ways (test k) (f.earlier k (omega arith) l) (ear_test w s ring k h)))
    at (inr n) =
        let e : ear_place w s ring ≡ 0 = ap (λ (o : Option ℕ). unwrap_or o 0) (none_found test 0 (length ring) n) in
        subst (IsCutNext w s ring) (sym e)
        (no_ear (λ k h. both_ways (test k) (n k (omega arith) (omega (arith, h.there))) (ear_test w s ring k h)))

ears_cut : (w : Twins) (s : ℤ) (n : ℕ) (ring : List Point) (ids : List ℕ) → length ring ≡ n + 3
    → IsCutBy w s ring ids (cut 0 (ear_places w s n ring) ids)
ears_cut w s zero ring ids h = last ring ids h
ears_cut w s (suc n) ring ids h =
    let t : ℕ = ear_place w s ring in
    let size : length (remove ring t) ≡ n + 3 =
    omega (arith, h, length-remove ring t (ear_place_below w s ring (omega (arith, h)))) in
    next ring ids t (cut 0 (ear_places w s n (remove ring t)) (remove ids t)) (omega (arith, h)) (cut_next w s ring)
    (ears_cut w s n (remove ring t) (remove ids t) size)

-- the cap of a ring is cut by the rule
pub cap_cut : (w : Twins) (ring : List Point) (ids : List ℕ) → 3 ≤ length ring
    → IsCutBy w (sign_of ring) ring ids (cap_by w ring ids)
unfolding places_by
cap_cut w ring ids h = ears_cut w (sign_of ring) (length ring - 3) ring ids (omega arith)
