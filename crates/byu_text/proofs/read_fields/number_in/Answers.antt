use Rattle.std.proofs.Common.{arith, ◌≡◌, ◌≤◌, ◌<◌, ◌^◌, ◌⊎◌, inl, inr, ℕ, true, false, List, length, get_or, sym, ap, ◌∙◌, subst}
use Rattle.std.specs.Prelude.{decimal}
use Rattle.std.specs.Int.{IsInRange}
use Rattle.std.proofs.Math.Nat.{pow-le-pow_right}
use Rattle.std.proofs.lemmas.Bool.Decides.{nat_tests}
use Rattle.std.proofs.lemmas.List.{take_all}
use Rattle.std.proofs.lemmas.Fmt.{decimal_nonempty}
use Rattle.byu_text.proofs.Told.{told, AreDigits, digits_of, begins, written_by}
use Rattle.byu_text.proofs.read_fields.number_in.Goals as goal

pub returns-then-is_empty : goal.returns-then-is_empty
returns-then-is_empty c n h e =
    let none : length c.args.digits.now ≡ 0 = grind (arith, nat_tests) in
    absurd (omega (arith, none, ap length e, decimal_nonempty n (omega arith)))

pub returns-then-digits-gt1 : goal.returns-then-digits-gt1
returns-then-digits-gt1 c n h e = absurd
    (omega (arith, begins n c.args.digits.now h e c.if-digits-eq48.true, c.if-digits-gt1.true))

pub returns-then-not-is_digit : goal.returns-then-not-is_digit
returns-then-not-is_digit c n h e =
    let i : ℕ = c.loop-byte.byte-index in
    let digit : IsInRange 48 57 (get_or c.args.digits.now i 0) =
    subst AreDigits (sym e) (digits_of n h) i c.loop-byte-test.true in
    absurd (let t : c.is_digit.result ≡ true = c.is_digit.ensures.1 digit in let f : c.is_digit.result ≡ false =
    c.if-not-is_digit.true in cc)

pub overflow_mul-number : goal.overflow_mul-number
overflow_mul-number c =
    let l : c.loop-byte.byte-index ≤ 7 = omega arith in
    omega (arith, c.loop-byte.invariant.small, pow-le-pow_right {n = 10} (omega arith) l)

pub returns : goal.returns
returns c =
    let ds = c.args.digits.now in
    let end : c.loop-byte.byte-index ≡ length ds =
    omega (arith, c.loop-byte-test.false, c.loop-byte.auto.byte-index-end) in
    let value : c.loop-byte.number ≡ told ds = c.loop-byte.invariant.value
    ∙ ap told (take_all c.loop-byte.byte-index ds (omega (arith, end))) in
    let some : 0 < length ds = grind (arith, nat_tests) in
    let begins : get_or ds 0 0 ≡ 48 → length ds ≡ 1 =
    λ z. (let few = single ds z c.else-digits-eq48.either in omega (arith, few, some)) in (
      subst (λ (i : ℕ). c.loop-byte.number < 10 ^ i) end c.loop-byte.invariant.small,
      written_by ds (λ i l. c.loop-byte.invariant.digits i (omega (arith, end, l))) some (omega (arith, c.requires))
          begins ∙ ap decimal (sym value),
    )
  where
    single : (ds : List ℕ) → get_or ds 0 0 ≡ 48 → ((get_or ds 0 0 ≡ 48) × (length ds ≤ 1)) ⊎ (get_or ds 0 0 ≡ 48 → ⊥)
        → length ds ≤ 1
    single ds p (inl q) = q.1
    single ds p (inr n) = absurd (n p)
