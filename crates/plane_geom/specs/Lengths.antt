-- Lengths, in all three coordinates.
use Rattle.std.specs.Prelude.{ℕ, ◌+◌, ◌-ℤ◌}
use Rattle.fku_types.specs.declared.points.Point.{Point}
use Rattle.fku_types.specs.Points.{square}

-- the squared distance of two points
unfoldable pub distance_square : Point → Point → ℕ
distance_square a b = square (a.x -ℤ b.x) + square (a.y -ℤ b.y) + square (a.z -ℤ b.z)
