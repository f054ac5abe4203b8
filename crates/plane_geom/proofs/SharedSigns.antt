-- If two segments share a point, the tests by signs and ranges say so.
use Rattle.std.proofs.Common.{◌≡◌, ℕ, ◌+◌, ◌*◌, ◌-◌, ◌≤◌, ◌<◌, ℤ, pos, neg_ℤ, ◌+ℤ◌, ◌-ℤ◌, ◌*ℤ◌, ◌≤ℤ◌, arith, ap, sym, ◌∙◌, inl, inr}
use Rattle.std.specs.Int.{int_min, int_max}
use Rattle.std.proofs.lemmas.Int.{ints, clamps, by_lt_z}
use borrow.Author.Differences.{up, down}
use Rattle.fku_types.specs.declared.points.Point.{Point}
use Rattle.plane_geom.specs.Planes.{cross_product, side}
use Rattle.plane_geom.specs.Segments.{scaled, SharePoint}
use Rattle.plane_geom.specs.Signs.{Opposite, RangesOverlap}
use Rattle.plane_geom.proofs.Vectors.{neg-mul, mul-comm, mul-add, along_first, along_second, le-mul, within_up, within_down}
use Rattle.plane_geom.proofs.SegmentSides.{difference_of, mixture, side_d, side_a, side_b}

-- ---- from a common point to signs
-- p, q, r, m as sides of c, d, a, b, where d is the cross product of the two segments
opposite_of : (s t e : ℕ) (d p q r m : ℤ) → 0 < e → s ≤ e → t ≤ e → pos s *ℤ d ≡ pos e *ℤ r
    → pos t *ℤ d ≡ neg_ℤ (pos e *ℤ p) → q ≡ p +ℤ d → m +ℤ d ≡ r → Opposite p q × Opposite r m
opposite_of s t e d p q r m positive on_first on_second h k hq hm =
    let k' : pos t *ℤ d ≡ pos e *ℤ neg_ℤ p =
    omega (arith, ints, neg-mul p (pos e), mul-comm (pos e) (neg_ℤ p), mul-comm p (pos e)) in
    by_lt_z d (pos 0)
    (λ below.
    let l : d ≤ℤ pos 0 = omega (arith, ints) in
    let wr : (d ≤ℤ r) × (r ≤ℤ pos 0) = within_down s e d r positive on_first h l in
    let wp : (d ≤ℤ neg_ℤ p) × (neg_ℤ p ≤ℤ pos 0) = within_down t e d (neg_ℤ p) positive on_second k' l in
    (inr (omega (arith, ints), omega (arith, ints)), inl (omega (arith, ints), omega (arith, ints))))
    (λ l.
    let wr : (pos 0 ≤ℤ r) × (r ≤ℤ d) = within_up s e d r positive on_first h l in
    let wp : (pos 0 ≤ℤ neg_ℤ p) × (neg_ℤ p ≤ℤ d) = within_up t e d (neg_ℤ p) positive on_second k' l in
    (inl (omega (arith, ints), omega (arith, ints)), inr (omega (arith, ints), omega (arith, ints))))

pub opposite_sides : (a b c d : Point) → SharePoint a b c d → Opposite (side a b c) (side a b d)
    × Opposite (side c d a) (side c d b)
opposite_sides a b c d h =
    let hx : pos h.s *ℤ (b.x -ℤ a.x) ≡ (pos h.e *ℤ (c.x -ℤ a.x)) +ℤ (pos h.t *ℤ (d.x -ℤ c.x)) =
    difference_of h.s h.t h.e a.x b.x c.x d.x h.at.x in
    let hy : pos h.s *ℤ (b.y -ℤ a.y) ≡ (pos h.e *ℤ (c.y -ℤ a.y)) +ℤ (pos h.t *ℤ (d.y -ℤ c.y)) =
    difference_of h.s h.t h.e a.y b.y c.y d.y h.at.y in
    opposite_of h.s h.t h.e (cross_product (b.x -ℤ a.x) (b.y -ℤ a.y) (d.x -ℤ c.x) (d.y -ℤ c.y)) (side a b c)
    (side a b d) (side c d a) (side c d b) h.at.positive h.at.on_first h.at.on_second
    (along_second (pos h.s) (pos h.t) (pos h.e) (b.x -ℤ a.x) (b.y -ℤ a.y) (d.x -ℤ c.x) (d.y -ℤ c.y) (c.x -ℤ a.x)
    (c.y -ℤ a.y) hx hy ∙ ap (λ z. pos h.e *ℤ z) (sym (side_a a c d)))
    (along_first (pos h.s) (pos h.t) (pos h.e) (b.x -ℤ a.x) (b.y -ℤ a.y) (d.x -ℤ c.x) (d.y -ℤ c.y) (c.x -ℤ a.x)
    (c.y -ℤ a.y) hx hy)
    (side_d a b c d)
    (side_b a b c d)

-- a mixture lies in each range that holds both ends
mixture_least : (s e : ℕ) (n a b : ℤ) → s ≤ e → n ≤ℤ a → n ≤ℤ b → (pos e *ℤ n) ≤ℤ scaled e s a b
mixture_least s e n a b h p q =
    let f : e ≡ (e - s) + s = omega arith in
    let m : scaled e s a b ≡ (pos (e - s) *ℤ a) +ℤ (pos s *ℤ b) = mixture s (e - s) e a b f in
    let one : (pos (e - s) *ℤ n) ≤ℤ (pos (e - s) *ℤ a) = le-mul (e - s) n a p in
    let two : (pos s *ℤ n) ≤ℤ (pos s *ℤ b) = le-mul s n b q in
    omega (arith, ints, ap (λ k. k * up n) f, ap (λ k. k * down n) f)

mixture_most : (s e : ℕ) (n a b : ℤ) → s ≤ e → a ≤ℤ n → b ≤ℤ n → scaled e s a b ≤ℤ (pos e *ℤ n)
mixture_most s e n a b h p q =
    let f : e ≡ (e - s) + s = omega arith in
    let m : scaled e s a b ≡ (pos (e - s) *ℤ a) +ℤ (pos s *ℤ b) = mixture s (e - s) e a b f in
    let one : (pos (e - s) *ℤ a) ≤ℤ (pos (e - s) *ℤ n) = le-mul (e - s) a n p in
    let two : (pos s *ℤ b) ≤ℤ (pos s *ℤ n) = le-mul s b n q in
    omega (arith, ints, ap (λ k. k * up n) f, ap (λ k. k * down n) f)

-- one range does not lie above the other
not_above : (s t e : ℕ) (a b c d : ℤ) → 0 < e → s ≤ e → t ≤ e → scaled e s a b ≡ scaled e t c d
    → int_min a b ≤ℤ int_max c d
not_above s t e a b c d positive h k same =
    by_lt_z (int_max c d) (int_min a b)
    (λ above.
    let l : (pos e *ℤ int_min a b) ≤ℤ scaled e s a b =
    mixture_least s e (int_min a b) a b h (omega (arith, ints, clamps)) (omega (arith, ints, clamps)) in
    let m : scaled e t c d ≤ℤ (pos e *ℤ int_max c d) =
    mixture_most t e (int_max c d) c d k (omega (arith, ints, clamps)) (omega (arith, ints, clamps)) in
    let n : (pos e *ℤ (int_max c d +ℤ pos 1)) ≤ℤ (pos e *ℤ int_min a b) =
    le-mul e (int_max c d +ℤ pos 1) (int_min a b) (omega (arith, ints)) in
    absurd (omega (arith, ints, mul-add (pos e) (int_max c d) (pos 1))))
    (λ fine. fine)

pub overlap_of : (s t e : ℕ) (a b c d : ℤ) → 0 < e → s ≤ e → t ≤ e → scaled e s a b ≡ scaled e t c d
    → RangesOverlap a b c d
overlap_of s t e a b c d positive h k same =
    (not_above s t e a b c d positive h k same, not_above t s e c d a b positive k h (sym same))

-- ---- the test
pub record BySigns (a b c d : Point) : Type 0 where
  pub across_first : Opposite (side a b c) (side a b d)
  pub across_second : Opposite (side c d a) (side c d b)
  pub x : RangesOverlap a.x b.x c.x d.x
  pub y : RangesOverlap a.y b.y c.y d.y

pub by_signs : (a b c d : Point) → SharePoint a b c d → BySigns a b c d
by_signs a b c d h =
    let o : Opposite (side a b c) (side a b d) × Opposite (side c d a) (side c d b) = opposite_sides a b c d h in
    record {
      across_first = o.0;
      across_second = o.1;
      x = overlap_of h.s h.t h.e a.x b.x c.x d.x h.at.positive h.at.on_first h.at.on_second h.at.x;
      y = overlap_of h.s h.t h.e a.y b.y c.y d.y h.at.positive h.at.on_first h.at.on_second h.at.y;
    }
