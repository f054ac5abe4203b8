use Rattle.std.proofs.Common.{◌+◌, ◌≤◌, ◌∷◌, [], ℕ, List, get_or, arith, ap, ap₂, subst, ◌∙◌, to_z-of_z}
use Rattle.std.specs.Prelude.{unsigned_abs}
use Rattle.byu_text.specs.Fields.{sign_byte, IsFilled}
use Rattle.byu_text.proofs.FieldLaws.{coordinate_made, digits_few}
use Rattle.byu_text.proofs.FilledDigits.{three_last}
use Rattle.byu_text.proofs.fields.coordinate_field.Goals as goal

pub returns : goal.returns
returns c =
    let z = c.args.value in
    let k : ℕ = c.filled-others.result.0 in
    let six : ℕ = c.filled-others.result.1 in
    let back = to_z-of_z c.ranges.value in
    let filled = subst (λ (n : ℕ). IsFilled n k six) (c.unsigned_abs.ensures.value ∙ ap unsigned_abs back)
    c.filled-others.ensures.filled in
    let few : k ≤ 5 = omega (arith, filled.count, digits_few z c.requires) in
    ap₂ (λ (h l : List ℕ). c.sign.result ∷ get_or h 0 0 ∷ 46 ∷ get_or h 1 0 ∷ get_or h 2 0 ∷ get_or l 0 0 ∷ get_or l 1 0
    ∷ get_or l 2 0 ∷ 69 ∷ 43 ∷ 48 ∷ (48 + k) ∷ []) c.three_digits.ensures
    (c.three_digits-2.ensures ∙ three_last six)
    ∙ coordinate_made z c.sign.result k six (c.sign.ensures ∙ ap sign_byte back) few filled
