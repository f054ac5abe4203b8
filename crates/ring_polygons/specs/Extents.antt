-- Bounding intervals of points in x and y.
use Rattle.std.specs.Prelude.{ℤ, ◌≤ℤ◌}
use Rattle.fku_types.specs.declared.points.Point.{Point}
use Rattle.fku_types.specs.Points.{IsCoordinate}
use Rattle.ring_polygons.specs.declared.extents.Interval.{Interval}
use Rattle.ring_polygons.specs.declared.extents.Extent.{Extent}

-- a number lies between the ends of an interval
pub record LiesBetween (i : Interval) (v : ℤ) : Type 0 where
  pub least : i.least ≤ℤ v
  pub greatest : v ≤ℤ i.greatest

-- the ends of an interval are coordinates in range, in their order
pub record IsInterval (i : Interval) : Type 0 where
  pub order : i.least ≤ℤ i.greatest
  pub least : IsCoordinate i.least
  pub greatest : IsCoordinate i.greatest

-- an extent encloses a point in x and y
pub record IsEnclosed (e : Extent) (p : Point) : Type 0 where
  pub x : LiesBetween e.x p.x
  pub y : LiesBetween e.y p.y

-- both intervals of an extent have ends in range
pub record IsExtent (e : Extent) : Type 0 where
  pub x : IsInterval e.x
  pub y : IsInterval e.y
