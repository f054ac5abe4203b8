use Rattle.std.proofs.Common.{arith, ◌≡◌, ◌<◌, ◌≤◌, ◌^◌, ℕ, pos, length, ap}
use Rattle.std.specs.Prelude.{decimal}
use Rattle.std.proofs.Math.Nat.{pow-le-pow_right}
use Rattle.std.proofs.lemmas.List.{length-append}
use Rattle.byu_text.specs.Fields.{number_field}
use Rattle.byu_text.proofs.FieldLaws.{fits_pos}
use Rattle.byu_text.proofs.Told.{answers}
use Rattle.byu_text.proofs.Blanks.{behind_field, field_of}
use Rattle.byu_text.proofs.read_fields.number_of.Goals as goal

pub number_in-requires : goal.number_in-requires
number_in-requires c = omega (arith, ap length c.behind_blanks.ensures.blanks.1, length-append {A = ℕ}, c.requires)

pub returns : goal.returns
returns c =
    let b = c.behind_blanks.ensures in
    let field = c.args.field.now in
    let rest = c.behind_blanks.result.now in
    let few : length rest ≤ 8 = omega (arith, ap length b.blanks.1, length-append {A = ℕ}, c.requires) in
    answers c.number_in.result ((n : ℕ) → n < 10 ^ 8 → rest ≡ decimal n → ⊥)
    ((n : ℕ) → n < 10 ^ 8 → field ≡ number_field (pos n) → ⊥) (λ n. (n < 10 ^ length rest) × (rest ≡ decimal n))
    (λ n. (n < 10 ^ 8) × (field ≡ number_field (pos n)))
    (λ none n h e. none n h (behind_field (pos n) b.blanks.0 field rest (fits_pos n h) b.begins b.blanks.1 e))
    (λ n h. (
      omega (arith, h.0, pow-le-pow_right {n = 10} (omega arith) few),
      field_of (pos n) b.blanks.0 field rest c.requires b.blanks.1 h.1,
    ))
    c.number_in.ensures
