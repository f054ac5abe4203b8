-- Contours that overlap, seen along z.
use Rattle.std.specs.Prelude.{◌⊎◌, ℕ, ◌<◌, List, slice_index_or}
use Rattle.fku_types.specs.declared.points.Point.{Point}
use Rattle.plane_geom.specs.Nesting.{Inside}
use Rattle.correspondence.specs.Contours.{first_point, contour_at}
use Rattle.correspondence.specs.declared.bounds.Bounds.{Bounds}
use Rattle.correspondence.specs.Bounding.{Encloses}
use Rattle.correspondence.specs.Apart.{Touch}

-- two of their edges share a point, or vertex 0 of one is inside the other
abbrev pub Overlap : List Point → List Point → Type 0
Overlap one other = Touch one other ⊎ (Inside (first_point one) other ⊎ Inside (first_point other) one)

-- bounds enclose the first n contours, each its own
abbrev pub EncloseEach : List Bounds → List (List Point) → ℕ → Type 0
EncloseEach bounds contours n = (k : ℕ) (d : Bounds) → k < n
    → Encloses (slice_index_or bounds k d) (contour_at contours k)
