-- The first bad link, and its cause, are determined.
use Rattle.std.proofs.Common.{◌≡◌, inl, inr, ℕ, ◌<◌, List, length, Some, None, sym, ◌∙◌}
use Rattle.std.proofs.lemmas.Bool.{cases_order}
use Rattle.fku_types.specs.declared.fault.LinkCause.{LinkCause}
use Rattle.section_core.specs.Parts.{Parts}
use Rattle.correspondence.specs.Links.{AreGood, IsFirstBad}

-- a bad link is not among good ones
bad_not_good : (S : Parts) (k n : ℕ) (below above : List ℕ) (cause : LinkCause) → k < n → AreGood S n
    → IsFirstBad S k below above cause → ⊥
bad_not_good S k n below above cause less good bad = let e : None ≡ Some cause = sym (good k less) ∙ bad.cause in cc

-- if all links are good, none is the first bad one
pub good_or_bad : (S : Parts) (k : ℕ) (below above : List ℕ) (cause : LinkCause) → AreGood S (length S.links)
    → IsFirstBad S k below above cause → ⊥
good_or_bad S k below above cause good bad = bad_not_good S k (length S.links) below above cause bad.there good bad

pub one_bad : (S : Parts) (k n : ℕ) (below above low high : List ℕ) (cause why : LinkCause)
    → IsFirstBad S k below above cause → IsFirstBad S n low high why → (below ≡ low) × (above ≡ high) × (cause ≡ why)
one_bad S k n below above low high cause why p q =
    elim (cases_order k n) [
      | inl same ↦
          (let causes : Some cause ≡ Some why = sym p.cause ∙ rw same q.cause in
          let one : cause ≡ why = cc in
          (p.below ∙ rw same (sym q.below), p.above ∙ rw same (sym q.above), one))
      | inr (inl less) ↦ absurd (bad_not_good S k n below above cause less q.good_before p)
      | inr (inr more) ↦ absurd (bad_not_good S n k low high why more p.good_before q)
    ]
