-- What the code tests of the parts after an edit. Where their contours have enough points, it is their refusal.
use Rattle.std.specs.Prelude.{ℕ, pos, ◌==◌, Bool, not, List, [], ◌∷◌, length, nat_le, nat_lt, int_le}
use Rattle.std.specs.List.{list_all, sum_by}
use Rattle.fku_types.specs.declared.limits.TheConstants.{MAX_CONTOURS, MAX_CONTOUR_VERTICES, MAX_SECTION_VERTICES, MAX_VERTICES}
use Rattle.fku_types.specs.declared.fault.LimitName.TheVariants.{ContourVertices, SectionVertices, Vertices, Contours}
use Rattle.fku_types.specs.declared.fault.Fault.TheVariants.{NoContours}
use Rattle.section_core.specs.Parts.{ContourParts, SectionParts}
use Rattle.section_core.specs.Laws.{section_vertices}
use Rattle.section_edits.specs.declared.edit.EditFault.TheVariants.{Limit, Found}
use Rattle.section_edits.specs.Refusals.{Test}

-- no contour has more than MAX_CONTOUR_VERTICES vertices
abbrev pub has_short_contours : SectionParts → Bool
has_short_contours s = list_all (λ (c : ContourParts). int_le c.count (pos MAX_CONTOUR_VERTICES)) s.contours

-- a section has at most MAX_SECTION_VERTICES vertices
abbrev pub is_small : SectionParts → Bool
is_small s = nat_le (section_vertices s) MAX_SECTION_VERTICES

abbrev pub vertex_count : List SectionParts → ℕ
vertex_count sections = sum_by section_vertices sections

abbrev pub contour_count : List SectionParts → ℕ
contour_count sections = sum_by (λ (s : SectionParts). length s.contours) sections

-- the tests of the parts after the edit: the limits in their order, and that there is a contour
abbrev pub late_tests : List SectionParts → List Test
late_tests sections =
    (not (list_all has_short_contours sections), Limit ContourVertices)
    ∷ (not (list_all is_small sections), Limit SectionVertices)
    ∷ (nat_lt MAX_VERTICES (vertex_count sections), Limit Vertices)
    ∷ (nat_lt MAX_CONTOURS (contour_count sections), Limit Contours)
    ∷ (contour_count sections == 0, Found NoContours)
    ∷ []
