-- The side of a plane on which a point lies.
use Rattle.std.specs.Prelude.{ℤ}
use Rattle.fku_types.specs.declared.points.Point.{Point}
use Rattle.triangle_meshes.specs.Volumes.{seen_from, determinant}

-- six times the signed volume between four points: the determinant of the last three as seen from the first. Its sign
-- shows on which side of the plane of the first three the last one lies; it is 0 if all lie in one plane
unfoldable pub turn : Point → Point → Point → Point → ℤ
turn a b c d = determinant (seen_from a b) (seen_from a c) (seen_from a d)
