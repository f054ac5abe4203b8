-- A line breaks in one way, or in none.
use Rattle.std.proofs.Common.{◌≡◌, inl, inr, ℕ, zero, suc, ◌≤◌, List, [], ◌∷◌, take, refl, ap, sym, ◌∙◌, arith}
use Rattle.std.specs.Prelude.{slice_get}
use Rattle.std.proofs.lemmas.Bool.{cases_order}
use Rattle.section_core.specs.declared.parts.Version.{Version}
use Rattle.text_io.specs.WordLists.{Line}
use Rattle.section_core.specs.Laws.{Law, Facts, facts, KeepsAll, law_order}
use Rattle.section_core.specs.Reading.{Breach, form, broken, Breaks, Begins}
use Rattle.section_core.proofs.SoFar.{some_is}

-- fewer laws
keeps-take : (k : ℕ) (laws : List Law) (f : Facts) → KeepsAll laws f → KeepsAll (take k laws) f
keeps-take zero laws f h = tt
keeps-take (suc k) [] f h = tt
keeps-take (suc k) (law ∷ laws) f h = (h.0, keeps-take k laws f h.1)

keeps-take-le : (j k : ℕ) (laws : List Law) (f : Facts) → j ≤ k → KeepsAll (take k laws) f → KeepsAll (take j laws) f
keeps-take-le zero k laws f le h = tt
keeps-take-le (suc j) zero laws f le h = absurd (omega arith)
keeps-take-le (suc j) (suc k) [] f le h = tt
keeps-take-le (suc j) (suc k) (law ∷ laws) f le h = (h.0, keeps-take-le j k laws f (omega arith) h.1)

fewer : (v : Version) (laws less : List Law) (lines : List Line) → ((f : Facts) → KeepsAll laws f → KeepsAll less f)
    → Begins v laws lines → Begins v less lines
fewer v laws less lines w b = record {
  says = b.says;
  lawful = record { is_file = b.lawful.is_file; known = b.lawful.known; keeps = w (facts b.says) b.lawful.keeps };
  front = b.front;
  rest = b.rest;
  split = b.split;
  match = b.match;
}

-- a line breaks in only one way
pub breach_unique : (w : Version) (lines : List Line) (a b : Breach) → Breaks w lines a → Breaks w lines b → a ≡ b
breach_unique w lines form form h k = refl
breach_unique w lines form (broken law) h k = absurd (h (fewer w (take k.0 law_order) [] lines (λ f _. tt) k.2))
breach_unique w lines (broken law) form h k = absurd (k (fewer w (take h.0 law_order) [] lines (λ f _. tt) h.2))
breach_unique w lines (broken one) (broken other) h k =
    elim (cases_order h.0 k.0) [
      | inl e ↦ ap broken (some_is (sym h.1 ∙ ap (slice_get law_order) e ∙ k.1))
      | inr c ↦ elim c [
        | inl lt ↦ absurd (h.3 (fewer w (take k.0 law_order) (take (suc h.0) law_order) lines
            (λ f. keeps-take-le (suc h.0) k.0 law_order f (omega arith)) k.2))
        | inr gt ↦ absurd (k.3 (fewer w (take h.0 law_order) (take (suc k.0) law_order) lines
            (λ f. keeps-take-le (suc k.0) h.0 law_order f (omega arith)) h.2))
      ]
    ]

-- a line that breaks nothing does not break
pub breaks_not : (w : Version) (lines : List Line) (b : Breach) → Begins w law_order lines → Breaks w lines b → ⊥
breaks_not w lines form begins h = h (fewer w law_order [] lines (λ f _. tt) begins)
breaks_not w lines (broken law) begins h =
    h.3 (fewer w law_order (take (suc h.0) law_order) lines (λ f. keeps-take (suc h.0) law_order f) begins)
