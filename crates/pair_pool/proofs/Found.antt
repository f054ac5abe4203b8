-- The findings of each section, joined in the order of the sections.
use Rattle.std.proofs.Common.{◌≡◌, ℕ, ◌+◌, ◌-◌, ◌<◌, List, [], ◌∷◌, ◌++◌, length, take, get_or, map, pos, sym, subst, subst₂, arith}
use Rattle.std.proofs.lemmas.List.{get_or_default, length-append, length-map, take_all}
use Rattle.fku_types.proofs.ListLaws.{take_next}
use Rattle.section_core.specs.Parts.{Parts}
use Rattle.section_core.specs.Flat.{SectionData}
use Rattle.section_core.specs.ValidSections.{section_of}
use Rattle.section_pairs.specs.Ranges.{AreFindings}
use Rattle.section_pairs.specs.declared.findings.Findings.{Findings}
use Rattle.pair_pool.specs.Finding.{gaps_before, IsFoundAt}
use Rattle.pair_pool.specs.Batches.{AreMade}
use Rattle.pair_pool.proofs.Taken.{AreTaken, next_is}

no_section : SectionData
no_section = (pos 0, [])

abbrev all_data : Parts → List SectionData
all_data S = map section_of S.sections

-- the findings of the sections before a place and of the gaps above them
abbrev pub IsFoundBefore : Parts → ℕ → Findings → Type 0
IsFoundBefore S k f = AreFindings S (take k (all_data S)) 0 (gaps_before S k) f

-- the sections before the next place
taken_more : (S : Parts) (k : ℕ) → k < length S.sections
    → take (k + 1) (all_data S) ≡ take k (all_data S) ++ get_or (all_data S) k no_section ∷ []
taken_more S k l =
    let x = get_or (all_data S) k no_section in
    let there : k < length (all_data S) = omega (arith, l, length-map S.sections section_of) in
    take_next (all_data S) k x there (get_or_default (all_data S) k no_section x there)

-- no section has no findings
pub found_none : (S : Parts) (f : Findings) → AreFindings S [] 0 0 f → IsFoundBefore S 0 f
found_none S f h =
    let none : 0 ≡ gaps_before S 0 = omega arith in
    subst (λ (e : ℕ). AreFindings S [] 0 e f) none h

-- the findings of one more section
found_more : (S : Parts) (k : ℕ) (f more all : Findings) → k < length S.sections → IsFoundBefore S k f
    → IsFoundAt S k more
    → ((xs ys : List SectionData) (m e : ℕ) → AreFindings S xs 0 m f → AreFindings S ys m e more
    → AreFindings S (xs ++ ys) 0 e all)
    → IsFoundBefore S (k + 1) all
found_more S k f more all l h at merged =
    let whole : gaps_before S k ≡ k = omega (arith, l) in
    let front : AreFindings S (take k (all_data S)) 0 k f =
    subst (λ (m : ℕ). AreFindings S (take k (all_data S)) 0 m f) whole h in
    subst (λ (xs : List SectionData). AreFindings S xs 0 (gaps_before S (k + 1)) all) (sym (taken_more S k l))
    (merged (take k (all_data S)) (get_or (all_data S) k no_section ∷ []) k (gaps_before S (k + 1)) front
    (at no_section))

-- the findings of the next section are joined to those before it
pub found_next : (S : Parts) (each done was rest : List Findings) (n : ℕ) (f more all : Findings) → was ≡ more ∷ rest
    → AreTaken each done was n → AreMade (length S.sections) (IsFoundAt S) each → IsFoundBefore S (length done) f
    → ((xs ys : List SectionData) (b m e : ℕ) → AreFindings S xs b m f → AreFindings S ys m e more
    → AreFindings S (xs ++ ys) b e all)
    → IsFoundBefore S (length (done ++ more ∷ [])) all
found_next S each done was rest n f more all is taken are h merged =
    let k = length done in
    let next = next_is each done was rest more n is taken in
    let l : k < length S.sections = omega (arith, are.count, next.0) in
    let at : IsFoundAt S k more = subst (IsFoundAt S k) next.1 (are.each k more l) in
    subst (λ (n : ℕ). IsFoundBefore S n all) (sym (length-append done (more ∷ [])))
    (found_more S k f more all l h at (λ xs ys m e. merged xs ys 0 m e))

-- the findings of all sections
pub found_all : (S : Parts) (k : ℕ) (f : Findings) → k ≡ length S.sections → IsFoundBefore S k f
    → AreFindings S (all_data S) 0 (length S.sections - 1) f
found_all S k f is h =
    let whole : take k (all_data S) ≡ all_data S =
    take_all k (all_data S) (omega (arith, is, length-map S.sections section_of)) in
    let last : gaps_before S k ≡ length S.sections - 1 = omega (arith, is) in
    subst₂ (λ (xs : List SectionData) (e : ℕ). AreFindings S xs 0 e f) whole last h
