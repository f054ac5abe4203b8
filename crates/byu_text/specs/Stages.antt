-- What is known of a text whose first lines were read.
use Rattle.std.specs.Prelude.{ℕ, ◌≡◌, ◌+◌, ◌*◌, ◌/◌, ◌≤◌, ◌++◌, List, [], ◌∷◌, map, length, take, drop, All}
use Rattle.std.specs.List.{concat}
use Rattle.fku_types.specs.declared.points.Point.{Point}
use Rattle.fku_types.specs.Points.{IsInRange}
use Rattle.byu_text.specs.Byu.{polygon_line}
use Rattle.byu_text.specs.declared.head.Head.{Head}
use Rattle.byu_text.specs.Pieces.{Counts, mesh_head_line, AreMeshCounts, size_lines, point_lines, AreSizes, ArePoints, AreTriangles}

-- the counts in the first line
abbrev pub counts_of : Head → Counts
counts_of h = record { parts = h.parts; vertices = h.vertices; polygons = h.polygons }

-- the size of the next part, if so many polygons are left and so many parts come later
pub record IsSize (left later n : ℕ) : Type 0 where
  pub some : 1 ≤ n
  pub room : n + later ≤ left
  pub all : later ≡ 0 → n ≡ left

-- the vertices of the next line
pub record AreNext (count : ℕ) (points : List Point) : Type 0 where
  pub range : All IsInRange points
  pub long : length points ≡ count

-- bytes that begin with none of these lines
abbrev pub NoneOf : {X : Type 0} → (X → Type 0) → (X → List ℕ) → List ℕ → Type 0
NoneOf {X} P line bytes = (x : X) (more : List ℕ) → P x → bytes ≡ line x ++ more → ⊥

-- polygons split into parts of these sizes
abbrev pub parts_in : List ℕ → List (List ℕ) → List (List (List ℕ))
parts_in [] triangles = []
parts_in (n ∷ ns) triangles = take n triangles ∷ parts_in ns (drop n triangles)

-- where the lines of the vertices and of the polygons begin, and where the text ends
abbrev pub point_lines_at : Counts → ℕ
point_lines_at h = 33 + 17 * h.parts

abbrev pub polygons_at : Counts → ℕ
polygons_at h = point_lines_at h + (36 * h.vertices + (h.vertices + 1) / 2)

abbrev pub text_end_at : Counts → ℕ
text_end_at h = polygons_at h + 25 * h.polygons

-- the first line is that of these counts
pub record HasHead (text : List ℕ) (h : Counts) : Type 0 where
  pub counts : AreMeshCounts h
  pub line : text ≡ mesh_head_line h ++ drop 33 text

-- the lines of all parts follow it
pub record HasSizes (text : List ℕ) (h : Counts) (sizes : List ℕ) : Type 0 where
  pub are : AreSizes h sizes
  pub all : length sizes ≡ h.parts
  pub lines : drop 33 text ≡ concat (size_lines 1 sizes) ++ drop (point_lines_at h) text

-- the lines of all pairs of vertices follow those
pub record HasPointPairs (text : List ℕ) (h : Counts) (points : List Point) : Type 0 where
  pub are : ArePoints h points
  pub all : length points ≡ 2 * (h.vertices / 2)
  pub lines : drop (point_lines_at h) text ≡ concat (point_lines points)
      ++ drop (point_lines_at h + 73 * (h.vertices / 2)) text

-- the lines of all vertices follow those
pub record HasPoints (text : List ℕ) (h : Counts) (points : List Point) : Type 0 where
  pub are : ArePoints h points
  pub all : length points ≡ h.vertices
  pub lines : drop (point_lines_at h) text ≡ concat (point_lines points) ++ drop (polygons_at h) text

-- the lines of all polygons follow those
pub record HasTriangles (text : List ℕ) (h : Counts) (triangles : List (List ℕ)) : Type 0 where
  pub are : AreTriangles h triangles
  pub all : length triangles ≡ h.polygons
  pub lines : drop (polygons_at h) text ≡ concat (map polygon_line triangles) ++ drop (text_end_at h) text
