use Rattle.std.proofs.Common.{◌≡◌, ℕ, ℤ, List, Option, None, Some, true, false, refl, sym, subst, ap, ◌∙◌}
use Rattle.std.specs.Prelude.{MatchOption}
use Rattle.std.proofs.lemmas.Bool.{false≢true}
use Rattle.text_io.specs.Text.{number_of, Reads}
use Rattle.text_io.specs.declared.text.Number.{Number}
use Rattle.text_io.specs.declared.text.Number.TheVariants.{Value, Far}
use Rattle.section_core.specs.Numbers.{NumberIs}
use Rattle.section_core.specs.Steps.{is_coordinate}
use Rattle.section_edits.specs.Lines.{InRange}
use Rattle.section_edits.specs.Reading.{NoCoordinate}
use Rattle.section_edits.proofs.Wording.{number_once}
use Rattle.section_edits.proofs.lines.coordinate_of.Goals as goal

-- the range of the one number that a word says
said : (word : List ℕ) (z : ℤ) (r : Option ℤ) → number_of word ≡ Some z
    → MatchOption r (is_coordinate z ≡ false) (λ v. (v ≡ z) × (is_coordinate z ≡ true))
    → MatchOption r (NoCoordinate word) (λ v. (number_of word ≡ Some v) × InRange v)
said word z None e far = λ y in-range is.
    false≢true (sym (subst (λ (x : ℤ). is_coordinate x ≡ false) (number_once word z y e is) far) ∙ in-range)
said word z (Some v) e near = (
  e ∙ ap (λ (x : ℤ). Some x) (sym near.0),
  subst (λ (x : ℤ). is_coordinate x ≡ true) (sym near.0) near.1,
)

number_is : (z : ℤ) (n : Number) → Reads (Some z) (Some n) → NumberIs n z
number_is z (Value m) h = h.0
number_is z Far h = h

of_number : (word : List ℕ) (o : Option ℤ) (n : Number) (r : Option ℤ) → number_of word ≡ o → Reads o (Some n)
    → ((z : ℤ) → NumberIs n z
    → MatchOption r (is_coordinate z ≡ false) (λ v. (v ≡ z) × (is_coordinate z ≡ true)))
    → MatchOption r (NoCoordinate word) (λ v. (number_of word ≡ Some v) × InRange v)
of_number word None n r e h f = absurd h
of_number word (Some z) n r e h f = said word z r e (f z (number_is z n h))

pub returns-in-Some : goal.returns-in-Some
returns-in-Some c =
    of_number c.args.word.now (number_of c.args.word.now) c.in-Some.number c.coordinate.result refl c.in-Some.ensures
    c.coordinate.ensures
