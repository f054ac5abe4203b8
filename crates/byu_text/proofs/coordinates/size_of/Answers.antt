use Rattle.std.proofs.Common.{arith, ◌≡◌, ◌<◌, ◌≤◌, ◌+◌, ◌-◌, ◌^◌, ◌⊎◌, inl, inr, ℕ, ℤ, pos, true, false, length, drop, get_or, replicate, sym, ap, ◌∙◌}
use Rattle.std.specs.Prelude.{unsigned_abs, decimal}
use Rattle.std.proofs.Math.Nat.{pow-le-pow_right}
use Rattle.std.proofs.lemmas.List.{length-replicate, length-drop, length-take-le}
use Rattle.fku_types.specs.Points.{IsCoordinate}
use Rattle.byu_text.specs.Fields.{coordinate_field}
use Rattle.byu_text.proofs.FieldLaws.{digits_few, digits_some}
use Rattle.byu_text.proofs.Told.{answers}
use Rattle.byu_text.proofs.SixDigits.{six_of, coordinate_told, digits_there, coordinate_by}
use Rattle.byu_text.proofs.coordinates.size_of.Goals as goal

pub returns-then-power-lt48 : goal.returns-then-power-lt48
returns-then-power-lt48 c z h e = absurd
    (by_power c.then-power-lt48.either (coordinate_told z c.args.field.now h c.requires e).power (digits_few z h))
  where
    by_power : {p k : ℕ} → (p < 48) ⊎ ((48 ≤ p) × (53 < p)) → p ≡ 48 + (k - 1) → k ≤ 6 → ⊥
    by_power (inl l) f g = absurd (omega (arith, f))
    by_power (inr l) f g = absurd (omega (arith, f, l.1))

pub returns-then-not-has_marks : goal.returns-then-not-has_marks
returns-then-not-has_marks c z h e =
    absurd (
    let y : c.has_marks.result ≡ true =
    c.has_marks.ensures.1 (coordinate_told z c.args.field.now h c.requires e).marks in
    let n : c.has_marks.result ≡ false = c.if-not-has_marks.true in cc)

pub returns-then-not-are_zeros : goal.returns-then-not-are_zeros
returns-then-not-are_zeros c z h e =
    let t = coordinate_told z c.args.field.now h c.requires e in
    let k : ℕ = c.from.result in
    let n : 1 + k ≡ length (decimal (unsigned_abs z)) = omega (arith, t.power, c.from.ensures, digits_some z h) in
    let there : c.split_at.result.1.now ≡ replicate (6 - (1 + k)) 48 = c.split_at.ensures.back
    ∙ (digits_there z (six_of c.args.field.now) (1 + k) h t.digits n).1 in
    let long : 6 - (1 + k) ≡ length c.split_at.result.1.now =
    omega (arith, ap length there, length-replicate {A = ℕ} (6 - (1 + k)) 48) in
    absurd (
    let y : c.are_zeros.result ≡ true = c.are_zeros.ensures.1 (there ∙ ap (λ (i : ℕ). replicate i 48) long) in
    let f : c.are_zeros.result ≡ false = c.if-not-are_zeros.true in cc)

pub returns : goal.returns
returns c =
    let field = c.args.field.now in
    let k : ℕ = c.from.result in
    let some = c.split_at.result.0.now in
    let zeros = c.split_at.result.1.now in
    let few : k ≤ 5 = omega (arith, c.from.ensures, c.if-power-gt53.false) in
    let power : get_or field 11 0 ≡ 48 + k = omega (arith, c.from.ensures, c.if-power-lt48.false) in
    let long : length zeros ≡ 5 - k = omega
    (arith, ap length c.split_at.ensures.back, length-drop (1 + k) (six_of field)) in
    let filled : drop (1 + k) (six_of field) ≡ replicate (5 - k) 48 = sym c.split_at.ensures.back
    ∙ c.are_zeros.ensures.0 c.if-not-are_zeros.false ∙ ap (λ (i : ℕ). replicate i 48) long in
    let short : length some ≤ 6 = omega
    (arith, ap length c.split_at.ensures.front, length-take-le (1 + k) (six_of field) (omega arith)) in
    answers c.number_in.result ((n : ℕ) → n < 10 ^ 8 → some ≡ decimal n → ⊥)
    ((z : ℤ) → IsCoordinate z → drop 1 field ≡ drop 1 (coordinate_field z) → ⊥)
    (λ n. (n < 10 ^ length some) × (some ≡ decimal n))
    (λ n. (n < 10 ^ 6) × (drop 1 field ≡ drop 1 (coordinate_field (pos n))))
    (λ none z h e.
    (let t = coordinate_told z field h c.requires e in
    let n : 1 + k ≡ length (decimal (unsigned_abs z)) = omega (arith, t.power, power, digits_some z h) in
    none (unsigned_abs z) (omega arith)
    (c.split_at.ensures.front ∙ (digits_there z (six_of field) (1 + k) h t.digits n).0)))
    (λ n h.
    (let small : n < 10 ^ 6 = omega (arith, h.0, pow-le-pow_right {n = 10} (omega arith) short) in (
      small,
      coordinate_by n k field small c.requires few (c.has_marks.ensures.0 c.if-not-has_marks.false) power
          (sym c.split_at.ensures.front ∙ h.1) filled,
    )))
    c.number_in.ensures
