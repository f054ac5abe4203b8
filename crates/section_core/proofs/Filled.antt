-- Contours among what the code holds, and among its parts.
use Rattle.std.proofs.Common.{◌≡◌, ℕ, ◌<◌, Bool, true, false, ◌&&◌, List, [], ◌∷◌, ◌++◌, map, length, Err, refl, ap, sym, ◌∙◌, inl, inr, arith}
use Rattle.std.specs.Prelude.{nat_lt}
use Rattle.std.specs.List.{list_any, list_all}
use Rattle.std.proofs.lemmas.Bool.{false≢true, or_parts, or_cases}
use Rattle.std.proofs.lemmas.Bool.Decides.{nat_tests}
use Rattle.std.proofs.lemmas.List.{length-append, length-map, nil_from_length}
use Rattle.fku_types.specs.declared.fault.Fault.TheVariants.{NoContours}
use Rattle.fku_types.specs.declared.rules.PairRule.{PairRule}
use Rattle.section_core.specs.declared.parts.Version.{Version}
use Rattle.section_core.specs.declared.parts.Section.{Section}
use Rattle.section_core.specs.declared.parts.Head.{Head}
use Rattle.section_core.specs.declared.parts.Draft.{Draft}
use Rattle.section_core.specs.declared.parts.Link.{Link}
use Rattle.section_core.specs.Parts.{CostParts, ContourParts, contours_of}
use Rattle.section_core.specs.Reading.{HasContour, has_contour, is_filled}
use Rattle.section_core.specs.Views.{section_parts, contour_parts, draft_parts, held_file}
use Rattle.section_core.specs.Finished.{ended_parts, has_any, Finishes, has_section, are_filled}

none_any : (ss : List Section) → list_any has_any ss ≡ false → contours_of (map section_parts ss) ≡ []
none_any [] e = refl
none_any (s ∷ ss) e =
    let p = or_parts (has_any s) (list_any has_any ss) e in
    let none : length s.contours.items ≡ 0 = let q : nat_lt 0 (length s.contours.items) ≡ false = p.0 in
    grind (arith, nat_tests) in
    ap (λ (cs : List ContourParts). cs ++ contours_of (map section_parts ss))
    (nil_from_length (map contour_parts s.contours.items) (length-map s.contours.items contour_parts ∙ none))
    ∙ none_any ss p.1

some_any : (ss : List Section) → list_any has_any ss ≡ true → 0 < length (contours_of (map section_parts ss))
some_any [] e = absurd (false≢true e)
some_any (s ∷ ss) e =
    let total = length-append (map contour_parts s.contours.items) (contours_of (map section_parts ss)) in
    elim (or_cases (has_any s) (list_any has_any ss) e) [
      | inl h ↦ let here : 0 < length s.contours.items = let q : nat_lt 0 (length s.contours.items) ≡ true = h in
          grind (arith, nat_tests) in omega (arith, total, length-map s.contours.items contour_parts, here)
      | inr h ↦ omega (arith, total, some_any ss h)
    ]

pub finishes_ok : (cost : CostParts) (rule : PairRule) (sections : List Section) (links : List Link)
    → list_any has_any sections ≡ true → HasContour (ended_parts cost rule sections links)
finishes_ok cost rule sections links e = some_any sections e

pub finishes_err : (cost : CostParts) (rule : PairRule) (sections : List Section) (links : List Link)
    → list_any has_any sections ≡ false → Finishes (ended_parts cost rule sections links) (Err NoContours)
finishes_err cost rule sections links e = (refl, none_any sections e)

-- an object that was read has a contour if its parts have one
section_has : (ss : List Section) → list_any has_any ss ≡ nat_lt 0 (length (contours_of (map section_parts ss)))
section_has ss = by_any (list_any has_any ss) refl
  where
    by_any : (b : Bool) → list_any has_any ss ≡ b
        → list_any has_any ss ≡ nat_lt 0 (length (contours_of (map section_parts ss)))
    by_any true e = let h = some_any ss e in let t : nat_lt 0 (length (contours_of (map section_parts ss))) ≡ true =
        grind (arith, nat_tests) in e ∙ sym t
    by_any false e = e ∙ ap (λ (cs : List ContourParts). nat_lt 0 (length cs)) (sym (none_any ss e))

all_have : (drafts : List Draft) → list_all has_section drafts ≡ list_all has_contour (map draft_parts drafts)
all_have [] = refl
all_have (d ∷ drafts) = ap (λ (b : Bool). b && list_all has_section drafts) (section_has d.sections.items)
    ∙ ap (λ (b : Bool). has_contour (draft_parts d) && b) (all_have drafts)

pub drafts_filled : (v : Version) (h : Head) (drafts : List Draft)
    → are_filled drafts ≡ is_filled (held_file v h drafts)
drafts_filled v h drafts =
    ap (λ (n : ℕ). nat_lt 0 n && list_all has_section drafts) (sym (length-map drafts draft_parts))
    ∙ ap (λ (b : Bool). nat_lt 0 (length (map draft_parts drafts)) && b) (all_have drafts)
