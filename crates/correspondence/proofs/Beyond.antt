-- Edges that lie beyond one side of another edge do not break the rule with it.
use Rattle.std.proofs.Common.{◌≡◌, ℕ, suc, ◌+◌, ◌<◌, List, length, slice_index_or, sym, ap, subst, ◌∙◌, arith}
use Rattle.std.proofs.lemmas.Int.{ints, clamps}
use Rattle.fku_types.specs.declared.points.Point.{Point}
use Rattle.plane_geom.specs.Rings.{around, origin}
use Rattle.plane_geom.specs.Segments.{SharePoint}
use Rattle.plane_geom.proofs.Insides.{around-below, around-end}
use Rattle.plane_geom.proofs.SharedSigns.{by_signs}
use Rattle.correspondence.specs.declared.bounds.Bounds.{Bounds}
use Rattle.correspondence.specs.Bounding.{LiesWithin, LieBeyond, left, right, below, above}
use Rattle.correspondence.specs.Simple.{AgainstRule, following, closing, distant}
use Rattle.correspondence.proofs.Rules.{begin_at, end_at}
use Rattle.plane_geom.proofs.SharedInLine.{exchange_both}

-- of two points beyond one side, neither lies within
not_first : (b : Bounds) (p q : Point) → LieBeyond b p q → LiesWithin b p → ⊥
not_first b p q (left h k) w = absurd (omega (arith, ints, h, w.left))
not_first b p q (right h k) w = absurd (omega (arith, ints, h, w.right))
not_first b p q (below h k) w = absurd (omega (arith, ints, h, w.bottom))
not_first b p q (above h k) w = absurd (omega (arith, ints, h, w.top))

not_second : (b : Bounds) (p q : Point) → LieBeyond b p q → LiesWithin b q → ⊥
not_second b p q (left h k) w = absurd (omega (arith, ints, k, w.left))
not_second b p q (right h k) w = absurd (omega (arith, ints, k, w.right))
not_second b p q (below h k) w = absurd (omega (arith, ints, k, w.bottom))
not_second b p q (above h k) w = absurd (omega (arith, ints, k, w.top))

-- and the segment between them shares no point with one whose ends lie within
pub not_shared : (b : Bounds) (a c p q : Point) → LieBeyond b p q → LiesWithin b a → LiesWithin b c → SharePoint a c p q
    → ⊥
not_shared b a c p q (left h k) u v s = let w = by_signs a c p q s in
    absurd (omega (arith, ints, clamps, h, k, u.left, v.left, w.x.0, w.x.1))
not_shared b a c p q (right h k) u v s = let w = by_signs a c p q s in
    absurd (omega (arith, ints, clamps, h, k, u.right, v.right, w.x.0, w.x.1))
not_shared b a c p q (below h k) u v s = let w = by_signs a c p q s in
    absurd (omega (arith, ints, clamps, h, k, u.bottom, v.bottom, w.y.0, w.y.1))
not_shared b a c p q (above h k) u v s = let w = by_signs a c p q s in
    absurd (omega (arith, ints, clamps, h, k, u.top, v.top, w.y.0, w.y.1))

-- the last edge ends where the first begins
pub around_last : (ring : List Point) (f : ℕ) → suc f ≡ length ring → around ring (suc f) ≡ around ring 0
around_last ring f e = around-end ring (suc f) e ∙ sym (around-below ring 0 (omega (arith, e)))

-- an edge beyond one side of a later one does not break the rule with it
pub beneath_keeps_rule : (b : Bounds) (ring : List Point) (e f : ℕ) → LiesWithin b (around ring f)
    → LiesWithin b (around ring (suc f)) → LieBeyond b (around ring e) (around ring (suc e)) → AgainstRule ring e f → ⊥
beneath_keeps_rule b ring e f u v out (following n s) =
    not_second b (around ring e) (around ring (suc e)) out (subst (λ (k : ℕ). LiesWithin b (around ring k)) n u)
beneath_keeps_rule b ring e f u v out (closing c s) =
    not_first b (around ring e) (around ring (suc e)) out
    (subst (LiesWithin b) (around_last ring f c.1 ∙ sym (ap (around ring) c.0)) v)
beneath_keeps_rule b ring e f u v out (distant n m s) =
    not_shared b (around ring f) (around ring (suc f)) (around ring e) (around ring (suc e)) out u v
    (exchange_both (around ring f) (around ring (suc f)) (around ring e) (around ring (suc e)) s)

-- an edge beyond one side, as it is read
pub beyond_at : (b : Bounds) (ring : List Point) (e : ℕ) (begin end : Point) → e < length ring
    → begin ≡ slice_index_or ring e origin → end ≡ around ring (e + 1) → LieBeyond b begin end
    → LieBeyond b (around ring e) (around ring (suc e))
beyond_at b ring e begin end within is_begin is_end out =
    subst (LieBeyond b (around ring e)) (end_at ring e end is_end)
    (subst (λ (p : Point). LieBeyond b p end) (is_begin ∙ begin_at ring e within) out)
