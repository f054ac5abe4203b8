-- Contours as contracts see them, and the limits that they keep.
use Rattle.std.specs.Prelude.{ℕ, ◌≤◌, List, [], length, map, sum_by, slice_index_or, All}
use Rattle.fku_types.specs.declared.limits.TheConstants.{MAX_CONTOUR_VERTICES, MAX_SECTION_VERTICES}
use Rattle.fku_types.specs.declared.points.Point.{Point}
use Rattle.fku_types.specs.Points.{IsInRange}
use Rattle.section_core.specs.declared.parts.Contour.{Contour}
use Rattle.section_core.specs.declared.parts.Section.{Section}
use Rattle.plane_geom.specs.Rings.{origin}

abbrev pub points_of : Contour → List Point
points_of c = c.points.items

-- the points of each contour of a section, in file order
abbrev pub point_lists : Section → List (List Point)
point_lists s = map points_of s.contours.items

-- the contour at a place; none past the end
abbrev pub contour_at : List (List Point) → ℕ → List Point
contour_at contours k = slice_index_or contours k []

-- vertex 0
abbrev pub first_point : List Point → Point
first_point ring = slice_index_or ring 0 origin

-- the points of a contour: 3 to MAX_CONTOUR_VERTICES, each in range
pub record IsOutline (points : List Point) : Type 0 where
  pub enough : 3 ≤ length points
  pub few : length points ≤ MAX_CONTOUR_VERTICES
  pub in_range : All IsInRange points

-- contours of at most MAX_SECTION_VERTICES vertices in all
pub record AreOutlines (contours : List Contour) : Type 0 where
  pub each : All (λ c. IsOutline (points_of c)) contours
  pub few : sum_by (λ c. length (points_of c)) contours ≤ MAX_SECTION_VERTICES
