-- Six times the signed volume of a mesh: the determinants of its triangles as seen from a point.
use Rattle.std.specs.Prelude.{ℕ, List, ℤ, ◌+ℤ◌, ◌-ℤ◌, ◌*ℤ◌, slice_index, slice_index_or}
use Rattle.fku_types.specs.declared.points.Point.{Point}
use Rattle.plane_geom.specs.Rings.{origin}
use Rattle.plane_geom.specs.Planes.{cross_product, signed_sum}
use Rattle.triangle_meshes.specs.Meshes.{Surface}

-- a point as seen from another: the differences of their coordinates
abbrev pub seen_from : Point → Point → Point
seen_from o p = record { x = p.x -ℤ o.x; y = p.y -ℤ o.y; z = p.z -ℤ o.z }

-- the determinant of three points: the first one times the cross product of the others
abbrev pub determinant : Point → Point → Point → ℤ
determinant p q r = (p.x *ℤ cross_product q.y q.z r.y r.z) +ℤ (p.y *ℤ cross_product q.z q.x r.z r.x) +ℤ
    (p.z *ℤ cross_product q.x q.y r.x r.y)

-- the vertex of an id, as seen from a point
abbrev pub vertex : List Point → Point → ℕ → Point
vertex vertices o id = seen_from o (slice_index_or vertices id origin)

-- six times the signed volume between a triangle of vertex ids and a point
abbrev pub six_volume_of : List Point → Point → List ℕ → ℤ
six_volume_of vertices o t =
    determinant (vertex vertices o (slice_index t 0)) (vertex vertices o (slice_index t 1))
    (vertex vertices o (slice_index t 2))

-- the same for a part: the sum over its triangles
abbrev pub part_volume : List Point → Point → List (List ℕ) → ℤ
part_volume vertices o triangles = signed_sum (six_volume_of vertices o) triangles

-- the same for a mesh: the sum over its parts
abbrev pub six_volume : Surface → Point → ℤ
six_volume s o = signed_sum (part_volume s.vertices o) s.parts
