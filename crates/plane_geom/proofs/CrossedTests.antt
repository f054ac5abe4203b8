-- The test by signs of areas shows which edges are crossed, and what lies inside.
use Rattle.std.proofs.Common.{◌≡◌, ◌↔◌, inl, inr, ℕ, zero, suc, ◌+◌, ◌%◌, ◌<◌, ◌≤◌, nat_eq, Bool, true, false, cond, IsTrue, List, [], ◌∷◌, length, take, get_or, count_by, ℤ, pos, ◌≤ℤ◌, ◌<ℤ◌, int_le, int_lt, refl, sym, ap, ap₂, subst, ◌∙◌, arith, add-one, take_all}
use Rattle.std.proofs.Math.Nat.{mod-eq_of_lt, mod_self}
use Rattle.std.proofs.lemmas.Int.{ints}
use Rattle.std.proofs.lemmas.List.Sums.{count_by_more_no, count_by_more_yes}
use Rattle.fku_types.specs.declared.points.Point.{Point}
use Rattle.plane_geom.specs.Rings.{origin, around, item_around, ring_edges}
use Rattle.plane_geom.specs.Planes.{side}
use Rattle.plane_geom.specs.Nesting.{Crossed, EdgeCrossed, CountedAmong, Inside, is_crossed, is_inside}
use Rattle.plane_geom.specs.Nesting.CountedAmong.{at_begin}
use Rattle.plane_geom.proofs.Tests.{both, either}
use Rattle.plane_geom.proofs.Crossings.{crossed_by_side, side_crosses}
use Rattle.plane_geom.proofs.RingReads.{ring_read, ring_length, around_is}
use Rattle.plane_geom.proofs.Insides.{around-below, one_more, none_more, odd_decides}

at_most : (x y : ℤ) → IsTrue (int_le x y) ↔ (x ≤ℤ y)
at_most x y = (λ h. grind (arith, ints), λ h. grind (arith, ints))

less : (x y : ℤ) → IsTrue (int_lt x y) ↔ (x <ℤ y)
less x y = (λ h. grind (arith, ints), λ h. grind (arith, ints))

pub crossed_test : (p a b : Point) → IsTrue (is_crossed p (a, b)) ↔ Crossed p a b
crossed_test p a b =
    let up = both _ _ _ _ (both _ _ _ _ (at_most a.y p.y) (less p.y b.y)) (less (pos 0) (side a b p)) in
    let down = both _ _ _ _ (both _ _ _ _ (at_most b.y p.y) (less p.y a.y)) (less (side a b p) (pos 0)) in
    let all = either _ _ _ _ up down in (
      λ t. side_crosses p a b (elim (all.0 t) [ inl w ↦ inl (w.0.0, w.0.1, w.1) | inr w ↦ inr (w.0.0, w.0.1, w.1) ]),
      λ h. all.1 (elim (crossed_by_side p a b h) [ inl w ↦ inl ((w.0, w.1), w.2) | inr w ↦ inr ((w.0, w.1), w.2) ]),
    )

-- edge i of a ring, by its place in the list of edges
edge_at : (ring : List Point) (i : ℕ) → i < length ring
    → get_or (ring_edges ring) i (origin, origin) ≡ (around ring i, around ring (suc i))
edge_at ring i h =
    ring_read ring i origin h ∙ ap₂ (λ (a b : Point). (a, b)) (sym (around-below ring i h))
    (ap (item_around origin ring) (add-one i) ∙ sym (around_is ring (suc i)))

edge_test : (p : Point) (ring : List Point) (i : ℕ) → i < length ring
    → IsTrue (is_crossed p (get_or (ring_edges ring) i (origin, origin))) ↔ EdgeCrossed p ring i
edge_test p ring i h =
    let P : Point × Point → Type 0 = λ e. IsTrue (is_crossed p e) ↔ EdgeCrossed p ring i in
    subst P (sym (edge_at ring i h)) (crossed_test p (around ring i) (around ring (suc i)))

pub one_truth : (a b : Bool) (P : Type 0) → IsTrue a ↔ P → IsTrue b ↔ P → a ≡ b
one_truth true true P f g = refl
one_truth true false P f g = sym (g.1 (f.0 refl))
one_truth false true P f g = f.1 (g.0 refl)
one_truth false false P f g = refl

pub count_more : {X : Type 0} (p : X → Bool) (xs : List X) (i : ℕ) (d : X) → i < length xs
    → count_by p (take (i + 1) xs) ≡ count_by p (take i xs) + cond (p (get_or xs i d)) 1 0
count_more p xs i d h = by_case (p (get_or xs i d)) refl
  where
    by_case : (b : Bool) → p (get_or xs i d) ≡ b → count_by p (take (i + 1) xs) ≡ count_by p (take i xs) + cond b 1 0
    by_case true e = count_by_more_yes p xs i d h e
    by_case false e = omega (arith, count_by_more_no p xs i d h e)

counted_step : (p : Point) (ring : List Point) (i n m : ℕ) (b : Bool) → i < length ring
    → is_crossed p (get_or (ring_edges ring) i (origin, origin)) ≡ b → m ≡ n + cond b 1 0
    → CountedAmong (EdgeCrossed p ring) i n → CountedAmong (EdgeCrossed p ring) (suc i) m
counted_step p ring i n m true h e f k =
    one_more (EdgeCrossed p ring) i n (suc i) m k refl (omega arith) ((edge_test p ring i h).0 e)
counted_step p ring i n m false h e f k =
    none_more (EdgeCrossed p ring) i n (suc i) m k refl (omega arith)
    (λ w. let t : false ≡ true = sym e ∙ (edge_test p ring i h).1 w in cc)

-- the count of the first edges of a ring
counted_first : (p : Point) (ring : List Point) (i : ℕ) → i ≤ length ring
    → CountedAmong (EdgeCrossed p ring) i (count_by (is_crossed p) (take i (ring_edges ring)))
counted_first p ring zero h = at_begin
counted_first p ring (suc i) h =
    let one : count_by (is_crossed p) (take (suc i) (ring_edges ring))
    ≡ count_by (is_crossed p) (take i (ring_edges ring))
    + cond (is_crossed p (get_or (ring_edges ring) i (origin, origin))) 1 0 =
    ap (λ (k : ℕ). count_by (is_crossed p) (take k (ring_edges ring))) (sym (add-one i))
    ∙ count_more (is_crossed p) (ring_edges ring) i (origin, origin) (omega (arith, ring_length ring)) in
    counted_step p ring i (count_by (is_crossed p) (take i (ring_edges ring)))
    (count_by (is_crossed p) (take (suc i) (ring_edges ring)))
    (is_crossed p (get_or (ring_edges ring) i (origin, origin))) (omega arith) refl one
    (counted_first p ring i (omega arith))

pub inside_test : (p : Point) (ring : List Point) → IsTrue (is_inside p ring) ↔ Inside p ring
unfolding is_inside
inside_test p ring =
    let all : take (length ring) (ring_edges ring) ≡ ring_edges ring =
    take_all (length ring) (ring_edges ring) (omega (arith, ring_length ring)) in
    odd_decides p ring (length ring) (count_by (is_crossed p) (ring_edges ring)) refl
    (subst (λ (es : List (Point × Point)). CountedAmong (EdgeCrossed p ring) (length ring) (count_by (is_crossed p) es))
    all (counted_first p ring (length ring) (omega arith)))

-- one more edge on the way round a ring
pub crossed_more : (p : Point) (ring : List Point) (i : ℕ) (b : Bool) (begin end : Point) → i < length ring
    → begin ≡ get_or ring i origin → end ≡ item_around origin ring (i + 1) → IsTrue b ↔ Crossed p begin end
    → count_by (is_crossed p) (take (i + 1) (ring_edges ring)) ≡ count_by (is_crossed p) (take i (ring_edges ring))
    + cond b 1 0
crossed_more p ring i b begin end h e f t =
    let edge : get_or (ring_edges ring) i (origin, origin) ≡ (begin, end) = ring_read ring i origin h
    ∙ ap₂ (λ (x y : Point). (x, y)) (sym e) (sym f) in
    let same : is_crossed p (get_or (ring_edges ring) i (origin, origin)) ≡ b = ap (is_crossed p) edge
    ∙ one_truth (is_crossed p (begin, end)) b (Crossed p begin end) (crossed_test p begin end) t in
    count_more (is_crossed p) (ring_edges ring) i (origin, origin) (omega (arith, ring_length ring))
    ∙ ap (λ (x : Bool). count_by (is_crossed p) (take i (ring_edges ring)) + cond x 1 0) same

-- the item after the last is the first
pub last_end : (ring others : List Point) (first : Point) → ring ≡ first ∷ others
    → first ≡ item_around origin ring (length others + 1)
last_end ring others first e =
    let whole : length others + 1 ≡ length ring = omega (arith, ap length e) in
    ap (λ (l : List Point). get_or l 0 origin) (sym e)
    ∙ sym (ap (item_around origin ring) whole ∙ ap (λ (k : ℕ). get_or ring k origin) (mod_self (length ring)))

pub next_end : (ring others : List Point) (first : Point) (i : ℕ) → ring ≡ first ∷ others → i < length others
    → (get_or others i origin ≡ get_or ring (i + 1) origin) × (get_or others i origin ≡ item_around origin ring (i + 1))
next_end ring others first i e h =
    let read : get_or others i origin ≡ get_or ring (i + 1) origin =
    ap (λ (k : ℕ). get_or (first ∷ others) k origin) (sym (add-one i))
    ∙ ap (λ (l : List Point). get_or l (i + 1) origin) (sym e) in
    let lt : i + 1 < length ring = omega (arith, ap length e) in
    (read, read ∙ ap (λ (k : ℕ). get_or ring k origin) (sym (mod-eq_of_lt lt)))

pub whole_count : (p : Point) (ring : List Point) (n m : ℕ) → m ≡ length ring
    → n ≡ count_by (is_crossed p) (take m (ring_edges ring)) → nat_eq (n % 2) 1 ≡ is_inside p ring
unfolding is_inside
whole_count p ring n m e h =
    let all : take m (ring_edges ring) ≡ ring_edges ring =
    take_all m (ring_edges ring) (omega (arith, ring_length ring)) in
    ap (λ (k : ℕ). nat_eq (k % 2) 1) (h ∙ ap (count_by (is_crossed p)) all)

pub none_inside : (p : Point) (ring : List Point) → length ring ≡ 0 → false ≡ is_inside p ring
unfolding is_inside
none_inside p [] e = refl
none_inside p (x ∷ ring) e = absurd (omega arith)

-- the count after one more edge, by cases of the test
pub more_counted : (p : Point) (ring : List Point) (i n m : ℕ) (b c : Bool) (begin end : Point) → i < length ring
    → begin ≡ get_or ring i origin → end ≡ item_around origin ring (i + 1) → IsTrue b ↔ Crossed p begin end
    → n ≡ count_by (is_crossed p) (take i (ring_edges ring)) → b ≡ c → m ≡ n + cond c 1 0
    → m ≡ count_by (is_crossed p) (take (i + 1) (ring_edges ring))
more_counted p ring i n m b c begin end h e f t k l q =
    omega (arith, crossed_more p ring i b begin end h e f t, ap {B = ℕ} (λ (x : Bool). cond x 1 0) l)
