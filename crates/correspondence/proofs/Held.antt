-- The sections that the code holds, as layers, and that they keep the limits.
use Rattle.std.proofs.Common.{◌≡◌, ℕ, ◌<◌, List, [], ◌∷◌, length, map, get_or, refl, sym, ap, ap₂, ◌∙◌, ℤ, pos, All}
use Rattle.std.specs.List.{AllByRecursion}
use Rattle.std.proofs.lemmas.List.{get_or-map}
use Rattle.fku_types.specs.declared.points.Point.{Point}
use Rattle.section_core.specs.declared.parts.Contour.{Contour}
use Rattle.section_core.specs.declared.parts.Section.{Section}
use Rattle.section_core.specs.Parts.{ContourParts, SectionParts, Parts}
use Rattle.section_core.specs.Views.{contour_parts, section_parts}
use Rattle.section_core.specs.Flat.{IsAtHeight, IsFlat, AreFlat}
use Rattle.section_core.specs.Accepted.{IsAccepted}
use Rattle.section_core.specs.ValidSections.{IsValidSection, AreValidSections}
use Rattle.correspondence.specs.Contours.{points_of, AreOutlines}
use Rattle.correspondence.specs.Outlines.{spot_point, layer, held_layer, layer_at}
use Rattle.std.proofs.lemmas.List.Elements.{All-from_recursion, recursion_from_All}
use Rattle.section_core.proofs.Keeping.{are_kept, names-same, level-data}

-- ---- layers
level_outlines : (z : ℤ) (cs : List Contour) → AllByRecursion (IsAtHeight z) cs
    → map (λ (c : ContourParts). map (spot_point z) c.points) (map contour_parts cs) ≡ map points_of cs
level_outlines z [] h = refl
level_outlines z (c ∷ cs) h = ap₂ (λ (q : List Point) (qs : List (List Point)). q ∷ qs)
    (sym (level-data z c.points.items h.0)) (level_outlines z cs h.1)

pub layer_held : (s : Section) → IsFlat s → layer (section_parts s) ≡ held_layer s
layer_held s h = ap₂ (λ (n : List (List ℕ)) (o : List (List Point)). record { names = n; outlines = o })
    (names-same s.contours.items) (level_outlines s.z s.contours.items h)

pub at_place : {X : Type 0} (P : X → Type 0) (xs : List X) (k : ℕ) (d : X) → AllByRecursion P xs → k < length xs
    → P (get_or xs k d)
at_place P xs k d h l = All-from_recursion P xs h k d l

pub layer_read : (ss : List Section) (S : Parts) (g : ℕ) (d : Section) → map section_parts ss ≡ S.sections → AreFlat ss
    → g < length ss → layer_at S g ≡ held_layer (get_or ss g d)
layer_read ss S g d e h l =
    ap (λ (x : List SectionParts). layer (get_or x g (record { z = pos 0; contours = [] }))) (sym e)
    ∙ ap layer (get_or-map section_parts ss g d (record { z = pos 0; contours = [] }) l)
    ∙ layer_held (get_or ss g d) (at_place IsFlat ss g d h l)

-- ---- limits
-- a section that keeps the limits of sections keeps those of contours
kept_outlines : (s : Section) → IsValidSection s → AreOutlines s.contours.items
kept_outlines s h = record {
  each = λ k d l. let c = h.contours k d l in record { enough = c.enough; few = c.few; in_range = c.in_range };
  few = h.few_vertices;
}

-- the sections of a text keep the limits of contours
pub sections_within : (ss : List Section) (S : Parts) → map section_parts ss ≡ S.sections → AreFlat ss → IsAccepted S
    → All (λ (s : Section). AreOutlines s.contours.items) ss
sections_within ss S e f a k d l = kept_outlines _ ((are_kept S ss e a f).each k d l)

-- ---- contracts of the readers of sections
flat_section : (s : Section) → IsValidSection s → IsFlat s
flat_section s h = recursion_from_All (IsAtHeight s.z) s.contours.items
    (λ k d l. recursion_from_All (λ (p : Point). p.z ≡ s.z) _ ((h.contours k d l).level))

-- each point of held sections is at the height of its section
pub kept_flat : (ss : List Section) → AreValidSections ss → AreFlat ss
kept_flat ss h = recursion_from_All IsFlat ss (λ k d l. flat_section _ (h.each k d l))
