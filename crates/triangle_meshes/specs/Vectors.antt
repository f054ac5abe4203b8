-- The vectors of the code as contracts see them.
use Rattle.std.specs.Prelude.{◌≤◌, unsigned_abs}
use Rattle.fku_types.specs.declared.limits.TheConstants.{MAX_DIFFERENCE}
use Rattle.fku_types.specs.declared.points.Point.{Point}
use Rattle.triangle_meshes.specs.declared.tetrahedra.Vector.{Vector}

-- a vector of the code as a point
abbrev pub point_of : Vector → Point
point_of v = record { x = v.x; y = v.y; z = v.z }

-- each coordinate is at most the difference of two coordinates in range
pub record IsDifference (v : Vector) : Type 0 where
  pub x : unsigned_abs v.x ≤ MAX_DIFFERENCE
  pub y : unsigned_abs v.y ≤ MAX_DIFFERENCE
  pub z : unsigned_abs v.z ≤ MAX_DIFFERENCE
