use Rattle.std.proofs.Common.{arith, ◌≡◌, ◌<◌, ◌-◌, ◌^◌, ◌⊎◌, inl, inr, ℕ, zero, suc, ℤ, pos, negsuc, true, false, ◌-ℤ◌, ◌∷◌, List, drop, get_or, refl, sym, ap, ◌∙◌, to_z, of_z, w32, subst}
use Rattle.std.proofs.lemmas.Int.{ints}
use Rattle.fku_types.specs.Points.{IsCoordinate}
use Rattle.byu_text.specs.Fields.{coordinate_field}
use Rattle.byu_text.proofs.SixDigits.{size_one, behind_first}
use Rattle.byu_text.proofs.coordinates.coordinate_of.Goals as goal

abbrev IsFieldOf : List ℕ → ℤ → Type 0
IsFieldOf field z = IsCoordinate z × (field ≡ coordinate_field z)

pub returns-in_err-size : goal.returns-in_err-size
returns-in_err-size c = rw c.from_residual.ensures (λ z h e. c.in_err-size.ensures z h (ap (drop 1) e))

pub returns-then-is_blank : goal.returns-then-is_blank
returns-then-is_blank c =
    let field = c.args.field.now in
    let n : ℕ = c.in_ok-size.field-0 in
    let small : n < 10 ^ 6 = c.in_ok-size.ensures.0 in
    let value : to_z w32 n ≡ pos n = omega (arith, ints, small) in
    let form : field ≡ coordinate_field (pos n) =
    behind_first field 32 (drop 1 (coordinate_field (pos n))) (omega (arith, c.requires))
    (c.is_blank.ensures.0 c.if-is_blank.true) c.in_ok-size.ensures.1 in
    subst (IsFieldOf field) (sym value) (omega arith, form)

-- a byte that is not a coordinate's sign
refused : (z : ℤ) (field : List ℕ) (n : ℕ) → IsCoordinate z → n < 10 ^ 6 → field ≡ coordinate_field z
    → drop 1 field ≡ drop 1 (coordinate_field (pos n)) → (get_or field 0 0 ≡ 32 → ⊥) → (get_or field 0 0 ≡ 45 → ⊥)
    ⊎ ((get_or field 0 0 ≡ 45) × (n ≡ 0)) → ⊥
refused (pos m) field n h small e s blank other = blank (ap (λ (l : List ℕ). get_or l 0 0) e)
refused (negsuc m) field n h small e s blank (inl f) = f (ap (λ (l : List ℕ). get_or l 0 0) e)
refused (negsuc m) field n h small e s blank (inr g) =
    absurd (omega (arith, g.1, size_one n (suc m) field small (omega arith) s (ap (drop 1) e)))

pub returns-then-field-ne45 : goal.returns-then-field-ne45
returns-then-field-ne45 c z h e =
    let other : get_or c.args.field.now 0 0 ≡ 32 → ⊥ = λ f.
    absurd (
    let t : c.is_blank.result ≡ true = c.is_blank.ensures.1 f in
    let n : c.is_blank.result ≡ false = c.if-is_blank.false in cc) in
    refused z c.args.field.now c.in_ok-size.field-0 h c.in_ok-size.ensures.0 e c.in_ok-size.ensures.1 other
    c.then-field-ne45.either

negative : (n m : ℕ) → n < 10 ^ 6 → n ≡ suc m → to_z w32 (of_z w32 (pos 0 -ℤ to_z w32 n)) ≡ negsuc m
negative n m small e = omega (arith, ints, e)

pub returns : goal.returns
returns c =
    let field = c.args.field.now in
    let n : ℕ = c.in_ok-size.field-0 in
    let small : n < 10 ^ 6 = c.in_ok-size.ensures.0 in
    let next : n ≡ suc (n - 1) = omega (arith, some n c.if-size-eq0.false) in
    let form : field ≡ coordinate_field (negsuc (n - 1)) =
    behind_first field 45 (drop 1 (coordinate_field (pos n))) (omega (arith, c.requires)) c.if-field-ne45.false
    c.in_ok-size.ensures.1 ∙ ap (λ (m : ℕ). 45 ∷ drop 1 (coordinate_field (pos m))) next in
    subst (IsFieldOf field) (sym (negative n (n - 1) small next)) (omega (arith, next), form)
  where
    some : (n : ℕ) → (n ≡ 0 → ⊥) → 0 < n
    some zero f = absurd (f refl)
    some (suc m) f = omega arith
