use Rattle.std.proofs.Common.{◌≡◌, ℕ, zero, suc, ◌<◌, List, [], ◌∷◌, map, length, get_or, refl, ap, sym, ◌∙◌, arith}
use Rattle.std.proofs.lemmas.List.{length-map}
use Rattle.strip_graph.specs.declared.tilings.Step.{Step}
use Rattle.cert_checker.specs.CertTexts.{letter}
use Rattle.cert_checker.proofs.reading.steps_of.Goals as goal

letter_in : (w : List Step) (i : ℕ) → i < length w → (s : Step) × (letter s ≡ get_or (map letter w) i 0)
letter_in [] i lt = absurd (omega arith)
letter_in (s ∷ w) zero lt = (s, refl)
letter_in (s ∷ w) (suc i) lt = letter_in w i (omega arith)

pub returns-in_default : goal.returns-in_default
returns-in_default c w is e =
    let i = c.loop-byte.byte-index in
    let inside : i < length w = omega (arith, c.loop-byte-test.true, ap length e, length-map w letter) in
    let s = letter_in w i inside in
    c.in_default.ensures s.0 (s.1 ∙ ap (λ (bs : List ℕ). get_or bs i 0) (sym e))
