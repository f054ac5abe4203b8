-- Sections of equal data stand for equal parts, and are as flat.
use Rattle.std.proofs.Common.{◌≡◌, List, [], ◌∷◌, map, length, ℤ, pos, refl, ap, sym, subst, ◌∙◌}
use Rattle.std.specs.List.{AllByRecursion}
use Rattle.std.proofs.lemmas.List.Elements.{All-from_recursion, recursion_from_All}
use Rattle.fku_types.specs.declared.points.Point.{Point}
use Rattle.section_core.specs.declared.parts.Contour.{Contour}
use Rattle.section_core.specs.declared.parts.Section.{Section}
use Rattle.fku_types.specs.declared.rules.PairRule.{PairRule}
use Rattle.section_core.specs.Parts.{CostParts, Parts, ContourParts, SectionParts, LinkParts}
use Rattle.section_core.specs.Views.{spot_of, contour_parts, section_parts}
use Rattle.section_core.specs.Flat.{AreFlat, ContourData, SectionData, contour_data, section_data, IsAtHeight, IsFlat, IsLevelSection}
use Rattle.fku_types.proofs.ListLaws.{all_map, all_unmap, all_weaker}

abbrev contour_of : ContourData → ContourParts
contour_of d = record { name = d.0; count = pos (length d.1); points = map spot_of d.1 }

abbrev section_of : SectionData → SectionParts
section_of d = record { z = d.0; contours = map contour_of d.1 }

contours-by : (cs : List Contour) → map contour_parts cs ≡ map contour_of (map contour_data cs)
contours-by [] = refl
contours-by (c ∷ cs) = ap (λ (ds : List ContourParts). contour_parts c ∷ ds) (contours-by cs)

section-by : (s : Section) → section_parts s ≡ section_of (section_data s)
section-by s = ap (λ (cs : List ContourParts). let p : SectionParts = record { z = s.z; contours = cs } in p)
    (contours-by s.contours.items)

sections-by : (ss : List Section) → map section_parts ss ≡ map section_of (map section_data ss)
sections-by [] = refl
sections-by (s ∷ ss) = ap (λ (p : SectionParts). p ∷ map section_parts ss) (section-by s)
    ∙ ap (λ (ps : List SectionParts). section_of (section_data s) ∷ ps) (sections-by ss)

pub parts-same : (xs ys : List Section) → map section_data xs ≡ map section_data ys
    → map section_parts xs ≡ map section_parts ys
parts-same xs ys e = sections-by xs ∙ ap (map section_of) e ∙ sym (sections-by ys)

pub section_same : (a b : Section) → section_data a ≡ section_data b → section_parts a ≡ section_parts b
section_same a b e = section-by a ∙ ap section_of e ∙ sym (section-by b)

abbrev Level : ℤ → ContourData → Type 0
Level z d = AllByRecursion (λ (p : Point). p.z ≡ z) d.1

abbrev Flat : SectionData → Type 0
Flat d = AllByRecursion (Level d.0) d.1

flat-to : (ss : List Section) → AreFlat ss → AllByRecursion Flat (map section_data ss)
flat-to ss h = all_map Flat section_data ss
    (all_weaker IsFlat (λ (s : Section). Flat (section_data s)) ss
    (λ s k. all_map (Level s.z) contour_data s.contours.items k) h)

flat-from : (ss : List Section) → AllByRecursion Flat (map section_data ss) → AreFlat ss
flat-from ss h = all_weaker (λ (s : Section). Flat (section_data s)) IsFlat ss
    (λ s k. all_unmap (Level s.z) contour_data s.contours.items k) (all_unmap Flat section_data ss h)

pub flat-same : (xs ys : List Section) → map section_data xs ≡ map section_data ys → AreFlat ys → AreFlat xs
flat-same xs ys e h = flat-from xs (subst (AllByRecursion Flat) (sym e) (flat-to ys h))

pub level_same : (a b : Section) → section_data a ≡ section_data b → IsLevelSection b → IsLevelSection a
level_same a b e h =
    All-from_recursion (IsAtHeight a.z) a.contours.items
    (flat-same (a ∷ []) (b ∷ []) (ap (λ (d : SectionData). d ∷ []) e)
    (recursion_from_All (IsAtHeight b.z) b.contours.items h, tt)).0

abbrev record_of : CostParts → PairRule → List SectionParts → List LinkParts → Parts
record_of cost rule sections links = record { cost = cost; rule = rule; sections = sections; links = links }

pub parts-are : (cost : CostParts) (rule : PairRule) (xs ys : List SectionParts) (ls ks : List LinkParts) → xs ≡ ys
    → ls ≡ ks → record_of cost rule xs ls ≡ record_of cost rule ys ks
parts-are cost rule xs ys ls ks e f = ap (λ (s : List SectionParts). record_of cost rule s ls) e
    ∙ ap (λ (l : List LinkParts). record_of cost rule ys l) f
