use Rattle.std.proofs.Common.{◌≡◌, ◌+◌, ◌<◌, ◌^◌, ℕ, length, arith, ap, ◌∙◌, subst, append-nil, to_z-of_z, ℤ, pos, true, false}
use Rattle.std.specs.Prelude.{unsigned_abs, decimal}
use Rattle.std.proofs.lemmas.Fmt.{length-decimal-le}
use lib.Signed.{lt_z}
use Rattle.byu_text.proofs.FieldLaws.{not_negative, negative, size_below, negative_below}
use Rattle.byu_text.proofs.fields.number_field.Goals as goal

pub write_digits-start-requires : goal.write_digits-start-requires
write_digits-start-requires c =
    let small : c.from.result < 10 ^ 8 =
    omega (
      arith,
      c.from.ensures ∙ c.unsigned_abs.ensures.value ∙ ap unsigned_abs (to_z-of_z c.ranges.number),
      size_below c.args.number c.requires,
    ) in
    (omega (arith, length-decimal-le 8 c.from.result (omega arith) small (omega arith)), omega arith)

pub overflow_sub-field : goal.overflow_sub-field
overflow_sub-field c =
    let same = to_z-of_z c.ranges.number in
    let below = negative_below c.args.number c.requires
    (subst (λ (y : ℤ). lt_z y (pos 0) ≡ true) same c.if-number-lt0.true) in
    let small : c.from.result < 10 ^ 7 =
    omega (arith, c.from.ensures ∙ c.unsigned_abs.ensures.value ∙ ap unsigned_abs same, below) in
    omega (
      arith,
      c.write_digits-start.ensures.start,
      length-decimal-le 7 c.from.result (omega arith) small (omega arith),
    )

pub returns-then-number-lt0 : goal.returns-then-number-lt0
returns-then-number-lt0 c =
    let w = c.write_digits-start in
    let z = c.args.number in
    let same = to_z-of_z c.ranges.number in
    let e : c.from.result ≡ unsigned_abs z = c.from.ensures ∙ c.unsigned_abs.ensures.value ∙ ap unsigned_abs same in
    let below = negative_below z c.requires (subst (λ (y : ℤ). lt_z y (pos 0) ≡ true) same c.if-number-lt0.true) in
    let small : c.from.result < 10 ^ 7 = omega (arith, e, below) in
    negative z w.new.buf w.result (subst (λ (y : ℤ). lt_z y (pos 0) ≡ true) same c.if-number-lt0.true) w.ensures.before
    (w.ensures.written ∙ append-nil _ ∙ ap decimal e)
    (subst (λ (n : ℕ). w.result + length (decimal n) ≡ 8) e w.ensures.start)
    (omega (arith, w.ensures.start, length-decimal-le 7 c.from.result (omega arith) small (omega arith)))

pub returns-else-number-lt0 : goal.returns-else-number-lt0
returns-else-number-lt0 c =
    let w = c.write_digits-start in
    let z = c.args.number in
    let same = to_z-of_z c.ranges.number in
    let e : c.from.result ≡ unsigned_abs z = c.from.ensures ∙ c.unsigned_abs.ensures.value ∙ ap unsigned_abs same in
    not_negative z w.new.buf w.result (subst (λ (y : ℤ). lt_z y (pos 0) ≡ false) same c.if-number-lt0.false)
    w.ensures.before
    (w.ensures.written ∙ append-nil _ ∙ ap decimal e)
    (subst (λ (n : ℕ). w.result + length (decimal n) ≡ 8) e w.ensures.start)
