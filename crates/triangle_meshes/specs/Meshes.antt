-- Triangle meshes as contracts see them.
use Rattle.std.specs.Prelude.{ℕ, ◌<◌, ◌≤◌, List, map, length, All, sum_by, Vec}
use Rattle.std.specs.declared.alloc.Global.{Global}
use Rattle.fku_types.specs.declared.limits.TheConstants.{MAX_MESH_PARTS, MAX_MESH_TRIANGLES, MAX_MESH_VERTICES}
use Rattle.fku_types.specs.declared.points.Point.{Point}
use Rattle.fku_types.specs.Points.{IsInRange}
use Rattle.triangle_meshes.specs.declared.meshes.Mesh.{Mesh}

-- the vertices of a mesh, and the triangles of each of its parts, a triangle being a list of three vertex ids
pub record Surface : Type 0 where
  pub vertices : List Point
  pub parts : List (List (List ℕ))

-- the triangles of each of the parts
abbrev pub triangle_lists : List (Vec (List ℕ) Global) → List (List (List ℕ))
triangle_lists parts = map (λ part. part.items) parts

-- a mesh as contracts see it
abbrev pub surface_of : Mesh → Surface
surface_of m = record { vertices = m.vertices.items; parts = triangle_lists m.parts.items }

-- 1 to MAX_MESH_VERTICES vertices in range, 1 to MAX_MESH_PARTS parts, each with a triangle, ids below the number of
-- vertices, and at most MAX_MESH_TRIANGLES triangles in all
pub record IsValid (s : Surface) : Type 0 where
  pub some_vertex : 1 ≤ length s.vertices
  pub few_vertices : length s.vertices ≤ MAX_MESH_VERTICES
  pub in_range : All IsInRange s.vertices
  pub some_part : 1 ≤ length s.parts
  pub few_parts : length s.parts ≤ MAX_MESH_PARTS
  pub some_triangle : All (λ part. 1 ≤ length part) s.parts
  pub known_ids : All (All (All (λ id. id < length s.vertices))) s.parts
  pub few_triangles : sum_by length s.parts ≤ MAX_MESH_TRIANGLES
