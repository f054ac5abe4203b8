use Rattle.std.proofs.Common.{arith, ◌≡◌, ◌<◌, ◌≤◌, ◌-◌, ◌∷◌, ℕ, suc, negsuc, List, length, take, drop, get_or, sym, ap, ◌∙◌}
use Rattle.std.specs.Prelude.{decimal}
use Rattle.std.proofs.Math.Nat.{pow-le-pow_right}
use Rattle.std.proofs.lemmas.Bool.Decides.{nat_tests}
use Rattle.std.proofs.lemmas.List.{length-append, length-take}
use Rattle.std.proofs.lemmas.Fmt.{decimal_injective}
use Rattle.byu_text.proofs.FieldLaws.{fits_negsuc}
use Rattle.byu_text.proofs.Blanks.{behind_field, field_of, behind_minus, minus_before}
use Rattle.byu_text.proofs.read_fields.negative_id.Goals as goal

pub returns-then-is_empty : goal.returns-then-is_empty
returns-then-is_empty c id h e =
    let b = c.behind_blanks-number.ensures in
    let rest = behind_field (negsuc id) b.blanks.0 c.args.field.now c.behind_blanks-number.result.now (fits_negsuc id h)
    b.begins b.blanks.1 e in
    let none : length c.behind_blanks-number.result.now ≡ 0 = grind (arith, nat_tests) in
    absurd (omega (arith, none, ap length rest))

pub returns-then-number-ne45 : goal.returns-then-number-ne45
returns-then-number-ne45 c id h e =
    let b = c.behind_blanks-number.ensures in
    let rest = behind_field (negsuc id) b.blanks.0 c.args.field.now c.behind_blanks-number.result.now (fits_negsuc id h)
    b.begins b.blanks.1 e in
    absurd (c.if-number-ne45.true (ap (λ (l : List ℕ). get_or l 0 0) rest))

pub returns-in_err-size : goal.returns-in_err-size
returns-in_err-size c = rw c.from_residual.ensures (λ id h e.
    (let b = c.behind_blanks-number.ensures in
    let text = c.behind_blanks-number.result.now in
    let rest = behind_field (negsuc id) b.blanks.0 c.args.field.now text (fits_negsuc id h) b.begins b.blanks.1 e in
    c.in_err-size.ensures (suc id) (omega arith) (behind_minus text (decimal (suc id)) rest)))

pub returns-then-size-eq0 : goal.returns-then-size-eq0
returns-then-size-eq0 c id h e =
    let b = c.behind_blanks-number.ensures in
    let text = c.behind_blanks-number.result.now in
    let rest = behind_field (negsuc id) b.blanks.0 c.args.field.now text (fits_negsuc id h) b.begins b.blanks.1 e in
    let same = decimal_injective c.in_ok-size.size (suc id) (omega arith) (omega arith)
    (sym c.in_ok-size.ensures.1 ∙ behind_minus text (decimal (suc id)) rest) in
    absurd (omega (arith, same, c.if-size-eq0.true))

pub returns : goal.returns
returns c =
    let b = c.behind_blanks-number.ensures in
    let text = c.behind_blanks-number.result.now in
    let n : ℕ = c.in_ok-size.size in
    let some : 0 < length text = grind (arith, nat_tests) in
    let few : length (take (length text - 1) (drop 1 text)) ≤ 7 =
    omega (
      arith,
      length-take (length text - 1) (drop 1 text),
      ap length b.blanks.1,
      length-append {A = ℕ},
      c.requires,
    ) in
    let next : n ≡ suc (n - 1) = omega arith in (
      omega (arith, next, c.in_ok-size.ensures.0, pow-le-pow_right {n = 10} (omega arith) few),
      field_of (negsuc (n - 1)) b.blanks.0 c.args.field.now text c.requires b.blanks.1
          (minus_before text (decimal n) some c.if-number-ne45.false c.in_ok-size.ensures.1
          ∙ ap (λ (m : ℕ). 45 ∷ decimal m) next),
    )
