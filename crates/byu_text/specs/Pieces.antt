-- The pieces of a mesh's text: its counts, the sizes of its parts, its vertices, and its polygons; and the lines of
-- each.
use Rattle.std.specs.Prelude.{ℕ, ◌≡◌, ◌+◌, ◌-◌, ◌*◌, ◌<◌, ◌≤◌, pos, List, [], ◌∷◌, length, sum, All}
use Rattle.fku_types.specs.declared.limits.TheConstants.{MAX_MESH_PARTS, MAX_MESH_TRIANGLES, MAX_MESH_VERTICES}
use Rattle.fku_types.specs.declared.points.Point.{Point}
use Rattle.fku_types.specs.Points.{IsInRange}
use Rattle.byu_text.specs.Fields.{number_line, coordinates_line}

-- how many parts, vertices and polygons
pub record Counts : Type 0 where
  pub parts : ℕ
  pub vertices : ℕ
  pub polygons : ℕ

-- the line of these counts of parts, vertices and polygons
abbrev pub mesh_head_line : Counts → List ℕ
mesh_head_line h = number_line (pos h.parts ∷ pos h.vertices ∷ pos h.polygons ∷ pos (3 * h.polygons) ∷ [])

-- some valid mesh has these counts: each part has a polygon
pub record AreMeshCounts (h : Counts) : Type 0 where
  pub some_part : 1 ≤ h.parts
  pub few_parts : h.parts ≤ MAX_MESH_PARTS
  pub some_vertex : 1 ≤ h.vertices
  pub few_vertices : h.vertices ≤ MAX_MESH_VERTICES
  pub enough : h.parts ≤ h.polygons
  pub few_polygons : h.polygons ≤ MAX_MESH_TRIANGLES

-- the line of a part of this size, where its first polygon has this number
abbrev pub size_line : ℕ → ℕ → List ℕ
size_line next n = number_line (pos next ∷ pos (next + n - 1) ∷ [])

-- the lines of parts of these sizes, where the next polygon has this number
abbrev pub size_lines : ℕ → List ℕ → List (List ℕ)
size_lines next [] = []
size_lines next (n ∷ ns) = size_line next n ∷ size_lines (next + n) ns

-- the lines of vertices, two on each line
abbrev pub point_lines : List Point → List (List ℕ)
point_lines [] = []
point_lines (p ∷ []) = coordinates_line (p ∷ []) ∷ []
point_lines (p ∷ q ∷ ps) = coordinates_line (p ∷ q ∷ []) ∷ point_lines ps

-- the sizes of the first parts: none is empty, a polygon is left for each part to come, and none is left after the last
-- part
pub record AreSizes (h : Counts) (sizes : List ℕ) : Type 0 where
  pub some : All (λ n. 1 ≤ n) sizes
  pub fit : length sizes ≤ h.parts
  pub room : sum sizes + h.parts ≤ h.polygons + length sizes
  pub all : length sizes ≡ h.parts → sum sizes ≡ h.polygons

-- the first vertices
pub record ArePoints (h : Counts) (points : List Point) : Type 0 where
  pub range : All IsInRange points
  pub fit : length points ≤ h.vertices

-- a polygon of three known vertices
abbrev pub IsKnownTriangle : Counts → List ℕ → Type 0
IsKnownTriangle h ids = (length ids ≡ 3) × All (λ id. id < h.vertices) ids

-- the first polygons
pub record AreTriangles (h : Counts) (triangles : List (List ℕ)) : Type 0 where
  pub known : All (IsKnownTriangle h) triangles
  pub fit : length triangles ≤ h.polygons
