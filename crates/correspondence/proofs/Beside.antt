-- A point is not inside a ring that lies above it or below it.
use Rattle.std.proofs.Common.{◌≡◌, ◌↔◌, ℕ, zero, suc, ◌<◌, ◌%◌, ◌≤ℤ◌, ◌<ℤ◌, ◌==◌, ◌&&◌, not, List, length, Bool, true, false, IsTrue, inl, inr, refl, All, arith}
use Rattle.std.proofs.lemmas.Int.{ints}
use Rattle.fku_types.specs.declared.points.Point.{Point}
use Rattle.plane_geom.specs.Rings.{around, origin}
use Rattle.plane_geom.specs.Nesting.{AtHeight, EdgeCrossed, CountedAmong, Inside, is_inside}
use Rattle.plane_geom.specs.Nesting.CountedAmong.{at_begin, counted, passed}
use Rattle.plane_geom.proofs.CrossedTests.{inside_test}
use Rattle.correspondence.specs.declared.bounds.Bounds.{Bounds}
use Rattle.correspondence.specs.Bounding.{Encloses, LieBeside}
use Rattle.correspondence.specs.Contours.{contour_at, first_point}
use Rattle.correspondence.specs.Nesting.{lies_in, LiesIn}

-- if some places are counted, there is one
some_place : (P : ℕ → Type 0) (i n : ℕ) → CountedAmong P i n → 0 < n → (k : ℕ) × (k < i) × P k
some_place P _ _ at_begin h = absurd (omega arith)
some_place P _ _ (counted i n c p) h = (i, omega arith, p)
some_place P _ _ (passed i n c p) h = let w = some_place P i n c h in (w.0, omega (arith, w.1), w.2)

odd_positive : (n : ℕ) → n % 2 ≡ 1 → 0 < n
odd_positive zero h = absurd (omega (arith, h))
odd_positive (suc n) h = omega arith

all_around : (P : Point → Type 0) (ring : List Point) (k : ℕ) → 0 < length ring → All P ring → P (around ring k)
unfolding around
all_around P ring k h a = a (k % length ring) origin (omega arith)

not_above : (p a b : Point) → p.y <ℤ a.y → p.y <ℤ b.y → AtHeight p a b → ⊥
not_above p a b h k (inl w) = absurd (omega (arith, ints, h, w.0))
not_above p a b h k (inr w) = absurd (omega (arith, ints, k, w.0))

not_below : (p a b : Point) → a.y ≤ℤ p.y → b.y ≤ℤ p.y → AtHeight p a b → ⊥
not_below p a b h k (inl w) = absurd (omega (arith, ints, k, w.1))
not_below p a b h k (inr w) = absurd (omega (arith, ints, h, w.1))

pub beneath_all : (p : Point) (ring : List Point) → All (λ q. p.y <ℤ q.y) ring → Inside p ring → ⊥
beneath_all p ring a w =
    let e = some_place (EdgeCrossed p ring) (length ring) w.count w.among (odd_positive w.count w.odd) in
    let some : 0 < length ring = omega (arith, e.1) in
    let P : Point → Type 0 = λ q. p.y <ℤ q.y in
    not_above p (around ring e.0) (around ring (suc e.0)) (all_around P ring e.0 some a)
    (all_around P ring (suc e.0) some a) e.2.height

pub above_all : (p : Point) (ring : List Point) → All (λ q. q.y ≤ℤ p.y) ring → Inside p ring → ⊥
above_all p ring a w =
    let e = some_place (EdgeCrossed p ring) (length ring) w.count w.among (odd_positive w.count w.odd) in
    let some : 0 < length ring = omega (arith, e.1) in
    let P : Point → Type 0 = λ q. q.y ≤ℤ p.y in
    not_below p (around ring e.0) (around ring (suc e.0)) (all_around P ring e.0 some a)
    (all_around P ring (suc e.0) some a) e.2.height

untrue_is_false : (b : Bool) → (IsTrue b → ⊥) → false ≡ b
untrue_is_false false h = refl
untrue_is_false true h = absurd (h refl)

-- bounds whose range in y does not reach the height of a point, or ends there
pub beside_outside : (b : Bounds) (p : Point) (ring : List Point) → Encloses b ring → LieBeside b p → Inside p ring → ⊥
beside_outside b p ring e (inl l) w = beneath_all p ring (λ i d h. omega (arith, ints, l, (e i d h).bottom)) w
beside_outside b p ring e (inr l) w = above_all p ring (λ i d h. omega (arith, ints, l, (e i d h).top)) w

-- outside, by both forms of the test
pub told_outside : (p : Point) (ring : List Point) → (Inside p ring → ⊥) → (IsTrue false ↔ Inside p ring)
    × (false ≡ is_inside p ring)
told_outside p ring h =
    let t = inside_test p ring in (
      (λ n. absurd (let k : false ≡ true = n in cc), λ w. absurd (h w)),
      untrue_is_false (is_inside p ring) (λ e. h (t.0 e)),
    )

and_no : (x y : Bool) → false ≡ y → false ≡ x && y
and_no false y h = refl
and_no true y h = h

-- so vertex 0 of a contour is not inside the other one, by both forms of the test
pub told_not_in : (contours : List (List Point)) (place other : ℕ) (b : Bounds) → Encloses b (contour_at contours other)
    → LieBeside b (first_point (contour_at contours place))
    → (false ≡ lies_in contours place other) × (LiesIn contours place other → ⊥)
told_not_in contours place other b e l =
    let p = first_point (contour_at contours place) in
    let ring = contour_at contours other in
    let out = told_outside p ring (beside_outside b p ring e l) in
    (and_no (not (other == place)) (is_inside p ring) out.1, λ w. beside_outside b p ring e l w.1)
