-- Facts break one law first, so no other verdict is right.
use Rattle.std.proofs.Common.{◌≡◌, ℕ, zero, suc, take, subst, ◌<◌, inl, inr, List, [], ◌∷◌, Option, None, Some, refl, ap, sym, ◌∙◌, arith}
use Rattle.std.specs.Prelude.{slice_get}
use Rattle.std.proofs.lemmas.Bool.{cases_order}
use Rattle.section_core.specs.Laws.{Facts, Law, law_order, Keeps, KeepsAll, BreaksFirst}
use Rattle.section_core.proofs.SoFar.{some_is}
use Rattle.section_core.proofs.Verdicts.{Verdict}

-- a law among those that facts keep
pub keeps-at : (laws : List Law) (k : ℕ) (law : Law) (f : Facts) → slice_get laws k ≡ Some law → KeepsAll laws f
    → Keeps law f
keeps-at [] k law f e h = absurd (cc)
keeps-at (first ∷ laws) zero law f e h = subst (λ (l : Law). Keeps l f) (some_is e) h.0
keeps-at (first ∷ laws) (suc k) law f e h = keeps-at laws k law f e h.1

pub get-take : (laws : List Law) (j k : ℕ) (law : Law) → j < k → slice_get laws j ≡ Some law
    → slice_get (take k laws) j ≡ Some law
get-take laws j zero law lt e = absurd (omega arith)
get-take [] j (suc k) law lt e = e
get-take (first ∷ laws) zero (suc k) law lt e = e
get-take (first ∷ laws) (suc j) (suc k) law lt e = get-take laws j k law (omega arith) e

-- facts that keep all laws break none
pub breaks_none : (law : Law) (f : Facts) → KeepsAll law_order f → BreaksFirst law f → ⊥
breaks_none law f k b = b.3 (keeps-at law_order b.0 law f b.1 k)

-- facts break one law first
breaks_one : (a b : Law) (f : Facts) → BreaksFirst a f → BreaksFirst b f → a ≡ b
breaks_one a b f h k =
    elim (cases_order h.0 k.0) [
      | inl e ↦ some_is (sym h.1 ∙ ap (slice_get law_order) e ∙ k.1)
      | inr c ↦ elim c [
        | inl lt ↦ absurd (h.3 (keeps-at (take k.0 law_order) h.0 a f (get-take law_order h.0 k.0 a lt h.1) k.2))
        | inr gt ↦ absurd (k.3 (keeps-at (take h.0 law_order) k.0 b f (get-take law_order k.0 h.0 b gt k.1) h.2))
      ]
    ]

-- no other verdict is right
pub verdict_none : (f : Facts) (o : Option Law) → Verdict f o → KeepsAll law_order f → o ≡ None
verdict_none f None v k = refl
verdict_none f (Some law) v k = absurd (breaks_none law f k v)

pub verdict_some : (f : Facts) (o : Option Law) (law : Law) → Verdict f o → BreaksFirst law f → o ≡ Some law
verdict_some f None law v b = absurd (breaks_none law f v b)
verdict_some f (Some other) law v b = ap Some (breaks_one other law f v b)
