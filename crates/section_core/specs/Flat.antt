-- Each point at the height of its section.
use Rattle.std.specs.Prelude.{ℕ, ◌≡◌, List, map, ℤ, All}
use Rattle.std.specs.List.{AllByRecursion}
use Rattle.fku_types.specs.declared.points.Point.{Point}
use Rattle.section_core.specs.declared.parts.Contour.{Contour}
use Rattle.section_core.specs.declared.parts.Section.{Section}
use Rattle.section_core.specs.declared.parts.Draft.{Draft}

-- each point of the contour is at this height
abbrev pub IsAtHeight : ℤ → Contour → Type 0
IsAtHeight z c = AllByRecursion (λ (p : Point). p.z ≡ z) c.points.items

-- each point of the section is at its height
abbrev pub IsFlat : Section → Type 0
IsFlat s = AllByRecursion (IsAtHeight s.z) s.contours.items

-- the same, stated for the contour at each place
abbrev pub IsLevelSection : Section → Type 0
IsLevelSection s = All (IsAtHeight s.z) s.contours.items

abbrev pub AreFlat : List Section → Type 0
AreFlat sections = AllByRecursion IsFlat sections

-- the same for objects that were read
abbrev pub AreFlatDrafts : List Draft → Type 0
AreFlatDrafts drafts = AllByRecursion (λ (d : Draft). AreFlat d.sections.items) drafts

-- the data of contours and sections, without their memory
abbrev pub ContourData : Type 0
ContourData = List ℕ × List Point

abbrev pub SectionData : Type 0
SectionData = ℤ × List ContourData

abbrev pub contour_data : Contour → ContourData
contour_data c = (c.name, c.points.items)

abbrev pub section_data : Section → SectionData
section_data s = (s.z, map contour_data s.contours.items)
