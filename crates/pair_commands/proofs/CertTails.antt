-- The lines after the front of a text are the last lines of the whole text.
use Rattle.std.proofs.Common.{◌≡◌, inl, inr, ℕ, zero, suc, ◌+◌, ◌-◌, ◌<◌, List, [], ◌∷◌, ◌++◌, length, drop, take, length-append, refl, sym, subst, ap, ◌∙◌, arith}
use Rattle.std.proofs.lemmas.List.{take_rest}
use Rattle.std.proofs.lemmas.Bool.{cases_Bool, cond-true, cond-false}
use Rattle.text_io.specs.Text.{lines, words, after_line, kept_from, is_kept}
use Rattle.text_io.specs.WordLists.{Line, Kept}
use Rattle.fku_types.specs.declared.fault.Fault.{Fault}
use Rattle.fku_types.specs.declared.fault.Fault.TheVariants.{CertForm}
use Rattle.section_pairs.specs.SectionFaults.{OrNoMemory}
use Rattle.text_io.proofs.TextLemmas.{lines_first}
use Rattle.section_text.specs.Fronts.{IsUsed, after_lines}
use Rattle.cert_checker.specs.CertTexts.{CertParts}
use Rattle.text_io.specs.Formats.{kept_behind, last_line}
use Rattle.cert_checker.specs.CertReading.{ReadsAsCertificate, IsCertFault, IsCertificateFault}

one_less : (text : List ℕ) → length (lines (after_line text)) ≡ length (lines text) - 1
one_less [] = refl
one_less (b ∷ bs) = omega (arith, ap length (lines_first (b ∷ bs) (omega arith)))

-- after n lines there are n lines fewer
fewer : (n : ℕ) (text : List ℕ) → length (lines (after_lines n text)) ≡ length (lines text) - n
fewer zero text = omega arith
fewer (suc n) text = omega (arith, one_less (after_lines n text), fewer n text)

first_is : (j k : Kept) (js ks : List Kept) → j ∷ js ≡ k ∷ ks → j ≡ k
first_is j k js ks e = cc

taken : (m n : ℕ) (ls : List (List ℕ)) (ws line : Line) (after : List Kept)
    → ((before : List Kept) → kept_from (m + 1) ls ≡ before ++ (n, line) ∷ after → n < m + 1 + length ls)
    → (before : List Kept) → (m, ws) ∷ kept_from (m + 1) ls ≡ before ++ (n, line) ∷ after → n < m + suc (length ls)
taken m n ls ws line after more [] e =
    let same : m ≡ n = ap (λ (k : Kept). k.0) (first_is (m, ws) (n, line) (kept_from (m + 1) ls) after e) in
    omega (arith, same)
taken m n ls ws line after more (x ∷ before) e =
    let rest : kept_from (m + 1) ls ≡ before ++ (n, line) ∷ after = cc in
    omega (arith, more before rest)

-- the number of a kept line is that of a line
numbered : (m : ℕ) (ls : List (List ℕ)) (before : List Kept) (n : ℕ) (line : Line) (after : List Kept)
    → kept_from m ls ≡ before ++ (n, line) ∷ after → n < m + length ls
numbered m [] before n line after e = absurd (omega (arith, ap length e, length-append before ((n, line) ∷ after)))
numbered m (l ∷ ls) before n line after e =
    elim (cases_Bool (is_kept (words l))) [
      | inl kept ↦ taken m n ls (words l) line after (λ b. numbered (m + 1) ls b n line after) before
          (sym (cond-true _ _ _ kept) ∙ e)
      | inr left ↦ let less = numbered (m + 1) ls before n line after (sym (cond-false _ _ _ left) ∙ e) in
          omega (arith, less)
    ]

-- the lines up to END and those after it are all lines
pub all_lines : (text : List ℕ) (used n : ℕ) → IsUsed text used n
    → n + length (lines (drop used text)) ≡ length (lines text)
all_lines text used n u =
    let within = numbered 1 (lines text) u.before n _ _ u.ends in
    omega (arith, within, fewer n text, ap (λ (t : List ℕ). length (lines t)) u.behind)

-- what a certificate after END reads as, or its fault, with the line numbers of the whole text
pub cert_read : (bytes : List ℕ) (used n : ℕ) (C : CertParts)
    → ReadsAsCertificate (kept_behind n (take (length bytes - used) (drop used bytes))) C
    → ReadsAsCertificate (kept_from (n + 1) (lines (drop used bytes))) C
cert_read bytes used n C h = subst (λ (b : List ℕ). ReadsAsCertificate (kept_behind n b) C) (take_rest bytes used) h

pub cert_fault : (bytes : List ℕ) (used n : ℕ) (f : Fault) → IsUsed bytes used n
    → IsCertificateFault (kept_behind n (take (length bytes - used) (drop used bytes)))
    (last_line n (take (length bytes - used) (drop used bytes))) f
    → IsCertificateFault (kept_from (n + 1) (lines (drop used bytes))) (length (lines bytes)) f
cert_fault bytes used n f u h =
    subst (λ (l : ℕ). IsCertificateFault (kept_behind n (drop used bytes)) l f) (all_lines bytes used n u)
    (subst (λ (b : List ℕ). IsCertificateFault (kept_behind n b) (last_line n b) f) (take_rest bytes used) h)

-- the fault is told as it is, or memory ran out
pub cert_told : (tail : List Kept) (last : ℕ) (f : Fault) → IsCertificateFault tail last f
    → OrNoMemory (IsCertFault tail last) f
cert_told tail last (CertForm n) h = inr (n, h, refl)
cert_told tail last f h = inl h
