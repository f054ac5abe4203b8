-- Segments within bounds that do not meet share no point.
use Rattle.std.proofs.Common.{◌≡◌, ◌↔◌, ℕ, suc, ◌<◌, ◌%◌, List, length, ℤ, ◌≤ℤ◌, Bool, false, true, IsTrue, sym, ap, subst, ◌∙◌, arith}
use Rattle.std.proofs.lemmas.Int.{ints, clamps}
use Rattle.fku_types.specs.declared.points.Point.{Point}
use Rattle.plane_geom.specs.Rings.{around, origin}
use Rattle.plane_geom.specs.Segments.{SharePoint}
use Rattle.plane_geom.specs.Signs.{RangesOverlap}
use Rattle.plane_geom.proofs.SharedSigns.{by_signs}
use Rattle.correspondence.specs.declared.bounds.Bounds.{Bounds}
use Rattle.correspondence.specs.Bounding.{LiesWithin, Encloses, BoundsMeet}
use Rattle.correspondence.specs.Simple.{AgainstRule, following, closing, distant}
use Rattle.correspondence.specs.Apart.{SegmentTouches, Touch}
use Rattle.correspondence.proofs.Beyond.{around_last}

ranges_overlap : (a b c d l h m g : ℤ) → RangesOverlap a b c d → l ≤ℤ a → l ≤ℤ b → a ≤ℤ h → b ≤ℤ h → m ≤ℤ c → m ≤ℤ d
    → c ≤ℤ g → d ≤ℤ g → (l ≤ℤ g) × (m ≤ℤ h)
ranges_overlap a b c d l h m g o la lb ah bh mc md cg dg =
    (omega (arith, ints, clamps, o.0), omega (arith, ints, clamps, o.1))

pub sharing_bounds_meet : (one other : Bounds) (a b c d : Point) → SharePoint a b c d → LiesWithin one a
    → LiesWithin one b → LiesWithin other c → LiesWithin other d → BoundsMeet one other
sharing_bounds_meet one other a b c d s wa wb wc wd =
    let w = by_signs a b c d s in
    let x = ranges_overlap a.x b.x c.x d.x one.min_x one.max_x other.min_x other.max_x w.x wa.left wb.left wa.right
    wb.right wc.left wd.left wc.right wd.right in
    let y = ranges_overlap a.y b.y c.y d.y one.min_y one.max_y other.min_y other.max_y w.y wa.bottom wb.bottom wa.top
    wb.top wc.bottom wd.bottom wc.top wd.top in
    record { left = x.0; right = x.1; bottom = y.0; top = y.1 }

-- bounds that enclose one point both
one_point : (one other : Bounds) (p : Point) → LiesWithin one p → LiesWithin other p → BoundsMeet one other
one_point one other p a b =
    record {
      left = omega (arith, ints, a.left, b.right);
      right = omega (arith, ints, a.right, b.left);
      bottom = omega (arith, ints, a.bottom, b.top);
      top = omega (arith, ints, a.top, b.bottom);
    }

pub against_bounds_meet : (one other : Bounds) (ring : List Point) (e f : ℕ) → LiesWithin one (around ring e)
    → LiesWithin one (around ring (suc e)) → LiesWithin other (around ring f) → LiesWithin other (around ring (suc f))
    → AgainstRule ring e f → BoundsMeet one other
against_bounds_meet one other ring e f a b c d (following n s) =
    one_point one other (around ring f) (subst (λ (k : ℕ). LiesWithin one (around ring k)) (sym n) b) c
against_bounds_meet one other ring e f a b c d (closing k s) =
    one_point one other (around ring e) a
    (subst (LiesWithin other) (around_last ring f k.1 ∙ sym (ap (around ring) k.0)) d)
against_bounds_meet one other ring e f a b c d (distant n m s) =
    sharing_bounds_meet one other (around ring e) (around ring (suc e)) (around ring f) (around ring (suc f)) s a b c d

-- each point of a ring, counted round it
pub around_within : (b : Bounds) (ring : List Point) (k : ℕ) → 0 < length ring → Encloses b ring
    → LiesWithin b (around ring k)
unfolding around
around_within b ring k h e = e (k % length ring) origin (omega arith)

pub touching_bounds_meet : (one other : Bounds) (a b : Point) (ring : List Point) → LiesWithin one a → LiesWithin one b
    → Encloses other ring → SegmentTouches a b ring → BoundsMeet one other
touching_bounds_meet one other a b ring wa wb e t =
    let some : 0 < length ring = omega (arith, t.within) in
    sharing_bounds_meet one other a b (around ring t.f) (around ring (suc t.f)) t.meet wa wb
    (around_within other ring t.f some e) (around_within other ring (suc t.f) some e)

pub bounds_meet : (one other : Bounds) (ring next : List Point) → Encloses one ring → Encloses other next
    → Touch ring next → BoundsMeet one other
bounds_meet one other ring next e f t =
    let some : 0 < length ring = omega (arith, t.within) in
    touching_bounds_meet one other (around ring t.e) (around ring (suc t.e)) next (around_within one ring t.e some e)
    (around_within one ring (suc t.e) some e) f t.edge

-- if the bounds do not meet, the result is no
pub apart_by_bounds : (r : Bool) (P Q : Type 0) → r ≡ false → IsTrue r ↔ Q → (P → Q) → IsTrue false ↔ P
apart_by_bounds r P Q e t f = (λ n. absurd (let k : false ≡ true = n in cc), λ p. sym e ∙ t.1 (f p))
