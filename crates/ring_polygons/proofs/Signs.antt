-- A number times the sign of a ring.
use Rattle.std.proofs.Common.{◌≡◌, ◌≤◌, Bool, true, false, ℤ, pos, ◌-ℤ◌, ◌*ℤ◌, unsigned_abs, to_z, of_z, w64, arith, ap, sym, ◌∙◌}
use Rattle.std.proofs.lemmas.Int.{ints}
use Rattle.plane_geom.proofs.Signed.{passed_i64}
use Rattle.ring_polygons.specs.Caps.{sign}

pub kept : (left : Bool) (r x : ℤ) → left ≡ true → unsigned_abs r ≤ 8000000000000 → r ≡ x
    → to_z w64 (of_z w64 r) ≡ sign left *ℤ x
kept left r x h fits e =
    let one : x ≡ pos 1 *ℤ x = omega (arith, ints) in
    passed_i64 r fits ∙ e ∙ one ∙ ap (λ (b : Bool). sign b *ℤ x) (sym h)

negated : (x : ℤ) → pos 0 -ℤ x ≡ sign false *ℤ x
negated x = omega (arith, ints)

pub turned : (left : Bool) (r x : ℤ) → left ≡ false → unsigned_abs r ≤ 8000000000000 → r ≡ x
    → to_z w64 (of_z w64 (pos 0 -ℤ to_z w64 (of_z w64 r))) ≡ sign left *ℤ x
turned left r x h fits e =
    let inner : to_z w64 (of_z w64 r) ≡ r = passed_i64 r fits in
    let small : unsigned_abs (pos 0 -ℤ r) ≤ 8000000000000 = omega (arith, ints) in
    ap (λ (z : ℤ). to_z w64 (of_z w64 (pos 0 -ℤ z))) inner ∙ passed_i64 (pos 0 -ℤ r) small
    ∙ ap (λ (z : ℤ). pos 0 -ℤ z) e ∙ negated x ∙ ap (λ (b : Bool). sign b *ℤ x) (sym h)
