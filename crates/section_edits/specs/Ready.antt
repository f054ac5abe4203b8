-- Parts that are lawful, but for the upper limits on contours and vertices, and that may have no contour.
use Rattle.std.specs.Prelude.{◌≤◌, length, pos, ◌≤ℤ◌}
use Rattle.std.specs.List.{AllByRecursion}
use Rattle.fku_types.specs.declared.limits.TheConstants.{MAX_LINKS, MAX_SECTIONS}
use Rattle.fku_types.specs.Points.{IsCoordinate}
use Rattle.section_core.specs.Parts.{ContourParts, Parts, IsCountedContour, IsLinked, contours_of}
use Rattle.section_core.specs.Laws.{IsSpot, IsMix, AreDistinct, AreRising, heights, names, weights}

-- a contour has a name, as many points as it counts, at least three, and all in range
abbrev pub IsWholeContour : ContourParts → Type 0
IsWholeContour c = IsCountedContour c × (pos 3 ≤ℤ c.count) × AllByRecursion IsSpot c.points

pub record IsReadyParts (S : Parts) : Type 0 where
  pub contours : AllByRecursion IsWholeContour (contours_of S.sections)
  pub names : AreDistinct (names S.sections)
  pub in_range : AllByRecursion IsCoordinate (heights S.sections)
  pub rising : AreRising (heights S.sections)
  pub few_sections : length (heights S.sections) ≤ MAX_SECTIONS
  pub links : IsLinked S.rule S.links
  pub few_links : length S.links ≤ MAX_LINKS
  pub weights : AllByRecursion IsMix (weights S.cost)
