-- Coordinates and lengths of points.
use Rattle.std.specs.Prelude.{ℕ, ◌*◌, ◌≤◌, ℤ, unsigned_abs}
use Rattle.fku_types.specs.declared.limits.TheConstants.{MAX_COORDINATE}
use Rattle.fku_types.specs.declared.points.Point.{Point}

-- the square of an integer
unfoldable pub square : ℤ → ℕ
square v = unsigned_abs v * unsigned_abs v

-- a coordinate or a height is not too far from 0
abbrev pub IsCoordinate : ℤ → Type 0
IsCoordinate v = unsigned_abs v ≤ MAX_COORDINATE

-- a point's coordinates and its height are in range
pub record IsInRange (p : Point) : Type 0 where
  pub x : IsCoordinate p.x
  pub y : IsCoordinate p.y
  pub z : IsCoordinate p.z
