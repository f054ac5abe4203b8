-- What holds of the sections of a text that has no fault, as the code holds them.
use Rattle.std.specs.Prelude.{ℕ, ◌≡◌, ◌<◌, ◌≤◌, true, All, List, map, length, ℤ}
use Rattle.std.specs.List.{flat_map, sum_by}
use Rattle.fku_types.specs.declared.limits.TheConstants.{MAX_CONTOURS, MAX_CONTOUR_VERTICES, MAX_SECTIONS, MAX_SECTION_VERTICES, MAX_VERTICES}
use Rattle.fku_types.specs.Names.{is_name}
use Rattle.fku_types.specs.Points.{IsCoordinate, IsInRange}
use Rattle.fku_types.specs.declared.points.Point.{Point}
use Rattle.section_core.specs.declared.parts.Contour.{Contour}
use Rattle.section_core.specs.declared.parts.Section.{Section}
use Rattle.section_core.specs.Parts.{Spot, ContourParts, SectionParts}
use Rattle.section_core.specs.Laws.{AreDistinct, AreRising}
use Rattle.section_core.specs.Flat.{ContourData, SectionData}

-- the contours of sections, in file order
abbrev pub contours_in : List Section → List Contour
contours_in sections = flat_map (λ s. s.contours.items) sections

abbrev pub vertices : Contour → ℕ
vertices c = length c.points.items

-- a contour of a section of this height: a name, and 3 to MAX_CONTOUR_VERTICES points in range at this height
pub record IsValidContour (z : ℤ) (c : Contour) : Type 0 where
  pub name : is_name c.name ≡ true
  pub enough : 3 ≤ vertices c
  pub few : vertices c ≤ MAX_CONTOUR_VERTICES
  pub in_range : All IsInRange c.points.items
  pub level : All (λ (p : Point). p.z ≡ z) c.points.items

-- a section: a height in range, and contours of at most MAX_SECTION_VERTICES vertices
pub record IsValidSection (s : Section) : Type 0 where
  pub height : IsCoordinate s.z
  pub contours : All (IsValidContour s.z) s.contours.items
  pub few_vertices : sum_by vertices s.contours.items ≤ MAX_SECTION_VERTICES

-- sections of a text: rising heights, distinct names, a contour, and the limits on all of them
pub record AreValidSections (sections : List Section) : Type 0 where
  pub each : All IsValidSection sections
  pub rising : AreRising (map (λ (s : Section). s.z) sections)
  pub names : AreDistinct (map (λ (c : Contour). c.name) (contours_in sections))
  pub some_contour : 0 < length (contours_in sections)
  pub few_sections : length sections ≤ MAX_SECTIONS
  pub few_contours : length (contours_in sections) ≤ MAX_CONTOURS
  pub few_vertices : sum_by vertices (contours_in sections) ≤ MAX_VERTICES

-- what the code holds of a section of parts: its points at its height
abbrev pub at_height : ℤ → Spot → Point
at_height z p = record { x = p.0; y = p.1; z = z }

abbrev pub contour_at_height : ℤ → ContourParts → ContourData
contour_at_height z c = (c.name, map (at_height z) c.points)

abbrev pub section_of : SectionParts → SectionData
section_of s = (s.z, map (contour_at_height s.z) s.contours)
