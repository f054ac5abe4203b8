-- The content of the first lines of a valid mesh's text, in plain words.
use Rattle.std.specs.Prelude.{ℕ, ◌≡◌, ◌⊎◌, ◌%◌, ◌<◌, ◌++◌, List, [], ◌∷◌, map, take, length}
use Rattle.fku_types.specs.declared.points.Point.{Point}
use Rattle.byu_text.specs.Byu.{polygon_line}
use Rattle.byu_text.specs.Lines.{text_lines_of}
use Rattle.byu_text.specs.Pieces.{Counts, mesh_head_line, AreMeshCounts, size_lines, point_lines, AreSizes, ArePoints, AreTriangles}

-- counts of a valid mesh, the first sizes, vertices and polygons; each of these begins only after all of the one before
-- it, and vertices come in pairs
pub record Front : Type 0 where
  pub head : Counts
  pub sizes : List ℕ
  pub points : List Point
  pub triangles : List (List ℕ)

pub record IsMeshFront (f : Front) : Type 0 where
  pub counts : AreMeshCounts f.head
  pub sizes : AreSizes f.head f.sizes
  pub points : ArePoints f.head f.points
  pub triangles : AreTriangles f.head f.triangles
  pub no_points : length f.sizes < f.head.parts → f.points ≡ []
  pub pairs : length f.points < f.head.vertices → length f.points % 2 ≡ 0
  pub no_triangles : length f.points < f.head.vertices → f.triangles ≡ []

-- the lines of a front
abbrev pub front_lines : Front → List (List ℕ)
front_lines f = mesh_head_line f.head ∷ (size_lines 1 f.sizes ++ (point_lines f.points ++ map polygon_line f.triangles))

-- the first n lines of a text are those of a front, or there are none
abbrev pub HasMeshFront : List ℕ → ℕ → Type 0
HasMeshFront text n = (n ≡ 0) ⊎ ((f : Front) × IsMeshFront f × (take n (text_lines_of text) ≡ front_lines f))
