use Rattle.std.proofs.Common.{◌≡◌, ℕ, List, [], ◌∷◌, ◌++◌, length, append-nil, MatchOption, refl, sym, ap, ◌∙◌, subst, arith, rules}
use Rattle.std.proofs.lemmas.Bool.Decides.{nat_tests}
use Rattle.section_text.specs.Plain.{BeginsNoDigit, IsShortNumber, IsShortPoint}
use Rattle.section_text.proofs.PlainLines.{coordinates_held, two_numbers}
use Rattle.section_text.proofs.plain.plain_point.Goals as goal

pub returns-in-Some-short_number-clause-point : goal.returns-in-Some-short_number-clause-point
returns-in-Some-short_number-clause-point c =
    coordinates_held c.args.line.now c.in-Some.x c.in-Some-short_number.y
    (two_numbers c.args.line.now c.in-Some.rest.now c.in-Some-strip_prefix.second.now c.in-Some-short_number.after.now
    c.in-Some.x c.in-Some-short_number.y c.in-Some.ensures.before
    (search (c.in-Some-strip_prefix.ensures.cases, rules))
    c.in-Some-short_number.ensures.before (grind (arith, nat_tests, c.is_empty.ensures, c.if-is_empty.true)))

-- the second number, once the first and the space are passed
second_is : (line rest second : List ℕ) → (h : IsShortPoint line)
    → ((word after : List ℕ) → line ≡ word ++ after → IsShortNumber word → BeginsNoDigit after → rest ≡ after)
    → rest ≡ 32 ∷ second → second ≡ h.second ++ []
second_is line rest second h all e =
    let same : 32 ∷ second ≡ 32 ∷ h.second = sym e ∙ all h.first (32 ∷ h.second) h.whole h.is_first refl in
    let own : second ≡ h.second = cc in
    own ∙ sym (append-nil h.second)

pub returns-in_default-short_number-clause-usual : goal.returns-in_default-short_number-clause-usual
returns-in_default-short_number-clause-usual c h =
    let line = c.args.line.now in
    let second = c.in-Some-strip_prefix.second.now in
    let none : c.in-Some-short_number.after.now ≡ [] =
    c.in-Some-short_number.ensures.all h.second []
    (second_is line c.in-Some.rest.now second h c.in-Some.ensures.all
    (search (c.in-Some-strip_prefix.ensures.cases, rules))) h.is_second tt in
    let n : length c.in-Some-short_number.after.now ≡ 0 = ap length none in
    absurd (grind (arith, nat_tests, n, c.is_empty.ensures, c.if-is_empty.false))

pub returns-in_default-short_number-2-clause-usual : goal.returns-in_default-short_number-2-clause-usual
returns-in_default-short_number-2-clause-usual c h =
    let line = c.args.line.now in
    let second = c.in-Some-strip_prefix.second.now in
    absurd
    (subst (λ (o : _). MatchOption o ⊥ (λ r. r.1.now ≡ [])) c.in_default-short_number.is
    (c.short_number-2.ensures.all h.second []
    (second_is line c.in-Some.rest.now second h c.in-Some.ensures.all
    (search (c.in-Some-strip_prefix.ensures.cases, rules))) h.is_second tt))
