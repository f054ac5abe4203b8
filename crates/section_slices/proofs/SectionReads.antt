-- The sections of the parts, as the code reads them.
use Rattle.std.proofs.Common.{◌≡◌, ℕ, ◌+◌, ◌<◌, true, List, [], length, map, get_or, sym, ap, ◌∙◌, inl, inr, pos, All}
use Rattle.std.proofs.lemmas.Bool.{both_ways, cases_lt}
use Rattle.std.proofs.lemmas.List.{get_or-map, length-map}
use Rattle.section_core.specs.declared.parts.Section.{Section}
use Rattle.section_core.specs.Parts.{Parts, SectionParts}
use Rattle.section_core.specs.Views.{section_parts}
use Rattle.correspondence.specs.Outlines.{section_at}
use Rattle.section_pairs.specs.declared.gap_pairs.GapPair.{GapPair}
use Rattle.section_pairs.specs.Pairs.{pair_parts}
use Rattle.section_slices.specs.Densified.{is_dense}
use Rattle.section_slices.proofs.DenseGaps.{not_above}

pub count_is : (S : Parts) (ss : List Section) → map section_parts ss ≡ S.sections → length ss ≡ length S.sections
count_is S ss e = sym (length-map ss section_parts) ∙ ap length e

pub section_read : (S : Parts) (ss : List Section) (k : ℕ) (s : Section) → map section_parts ss ≡ S.sections
    → k < length ss → s ≡ get_or ss k s → section_at S k ≡ section_parts s
section_read S ss k s e l h =
    let blank : SectionParts = record { z = pos 0; contours = [] } in
    ap (λ (xs : List SectionParts). get_or xs k blank) (sym e) ∙ get_or-map section_parts ss k s blank l
    ∙ ap section_parts (sym h)

-- a dense gap lies below a section
pub dense_below : (S : Parts) (g : ℕ) (ps : List GapPair) → All (λ p. p.gap + 1 < length S.sections) ps
    → is_dense S (map pair_parts ps) g ≡ true → g + 1 < length S.sections
dense_below S g ps h e = elim (cases_lt (g + 1) (length S.sections))
    [ inl l ↦ l | inr m ↦ absurd (both_ways (is_dense S (map pair_parts ps) g) (not_above S g ps h m) e) ]
