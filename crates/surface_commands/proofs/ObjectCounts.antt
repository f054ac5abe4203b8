-- How many sections and contours objects have.
use Rattle.std.proofs.Common.{◌≡◌, ℕ, ◌+◌, ◌<◌, ◌≤◌, get_or, List, [], ◌∷◌, length, map, drop, refl, sym, ap, ap₂, ◌∙◌, arith, length-append}
use Rattle.std.specs.Prelude.{sum_by}
use Rattle.std.proofs.lemmas.List.{length-map}
use Rattle.std.proofs.lemmas.List.Sums.{sum_by-cons}
use Rattle.std.proofs.lemmas.List.Concat.{flat_map-append}
use Rattle.fku_types.specs.declared.limits.TheConstants.{MAX_CONTOURS, MAX_SECTIONS}
use Rattle.fku_types.proofs.ListLaws.{drop_next}
use Rattle.section_core.specs.declared.objects.Object.{Object}
use Rattle.section_core.specs.Objects.{object_parts}
use Rattle.section_core.specs.Parts.{ContourParts, FileParts, ObjectParts, SectionParts, all_sections, contours_of}
use Rattle.section_core.specs.Laws.{IsLawfulFile, heights}

heights_of : (objects : List ObjectParts)
    → sum_by length (map (λ (o : ObjectParts). heights o.sections) objects) ≡ length (all_sections objects)
heights_of [] = refl
heights_of (o ∷ objects) =
    sum_by-cons length (heights o.sections) (map (λ (p : ObjectParts). heights p.sections) objects)
    ∙ ap₂ (λ (m n : ℕ). m + n) (length-map o.sections (λ (s : SectionParts). s.z)) (heights_of objects)
    ∙ sym (length-append o.sections (all_sections objects))

pub few_sections : (F : FileParts) → IsLawfulFile F → length (all_sections F.objects) ≤ MAX_SECTIONS
few_sections F lawful = omega (arith, lawful.1.1.1.1.1.1.1.0, heights_of F.objects)

pub few_contours : (F : FileParts) → IsLawfulFile F → length (contours_of (all_sections F.objects)) ≤ MAX_CONTOURS
few_contours F lawful = omega (
  arith,
  lawful.1.1.1.1.1.1.0,
  length-map (contours_of (all_sections F.objects)) (λ (c : ContourParts). c.name),
)

-- the objects from a place on, one fewer
pub sections_next : (items : List Object) (i count n whole : ℕ) (o : Object) → i < length items → o ≡ get_or items i o
    → n ≡ length o.sections.sections
    → count + length (all_sections (map object_parts (drop i items))) ≡ whole
    → count + n + length (all_sections (map object_parts (drop (i + 1) items))) ≡ whole
sections_next items i count n whole o l e is before =
    let rest = all_sections (map object_parts (drop (i + 1) items)) in
    let next = ap (λ (os : List Object). length (all_sections (map object_parts os))) (drop_next items i o l e) in
    omega (arith, is, before, next, length-append o.sections.sections rest)

pub contours_next : (items : List Object) (i count n whole : ℕ) (o : Object) → i < length items → o ≡ get_or items i o
    → n ≡ length (contours_of o.sections.sections)
    → count + length (contours_of (all_sections (map object_parts (drop i items)))) ≡ whole
    → count + n + length (contours_of (all_sections (map object_parts (drop (i + 1) items)))) ≡ whole
contours_next items i count n whole o l e is before =
    let rest = all_sections (map object_parts (drop (i + 1) items)) in
    let next = ap (λ (os : List Object). length (contours_of (all_sections (map object_parts os))))
    (drop_next items i o l e) in
    omega (
      arith,
      is,
      before,
      next,
      ap length
          (flat_map-append (λ (s : SectionParts). s.contours) o.sections.sections rest),
      length-append (contours_of o.sections.sections) (contours_of rest),
    )
