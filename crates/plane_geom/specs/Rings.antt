-- Rings of points, and the directed edges of rings and of triangles.
use Rattle.std.specs.Prelude.{◌≡◌, ℕ, ◌+◌, ◌≤◌, ◌%◌, ◌==◌, ◌&&◌, Bool, List, [], ◌∷◌, ◌++◌, All, take, length, slice_index_or, count_by, pos}
use Rattle.std.specs.List.{flat_map}
use Rattle.fku_types.specs.declared.limits.TheConstants.{MAX_COMPOSITE_VERTICES}
use Rattle.fku_types.specs.declared.points.Point.{Point}
use Rattle.fku_types.specs.Points.{IsInRange}

-- the points of a ring of a pair: 3 to MAX_COMPOSITE_VERTICES, each in range
pub record IsRing (points : List Point) : Type 0 where
  pub enough : 3 ≤ length points
  pub few : length points ≤ MAX_COMPOSITE_VERTICES
  pub in_range : All IsInRange points

-- the point (0, 0, 0)
abbrev pub origin : Point
origin = record { x = pos 0; y = pos 0; z = pos 0 }

-- the item of a ring at an index, counted round it
abbrev pub item_around : {X : Type 0} → X → List X → ℕ → X
item_around d xs k = slice_index_or xs (k % length xs) d

-- the point of a ring at an index, counted round it
unfoldable pub around : List Point → ℕ → Point
around ring k = item_around origin ring k

-- a ring as contracts see it: its points in order, and the vertex number of each
pub record RingView : Type 0 where
  pub points : List Point
  pub ids : List ℕ

-- each item of a list with the next one
abbrev pub path_edges : {X : Type 0} → List X → List (X × X)
path_edges [] = []
path_edges (x ∷ []) = []
path_edges (x ∷ y ∷ ys) = (x, y) ∷ path_edges (y ∷ ys)

-- the directed edges of a ring, or of a triangle: each item with the next one, and the last with the first
abbrev pub ring_edges : {X : Type 0} → List X → List (X × X)
ring_edges xs = path_edges (xs ++ take 1 xs)

-- a directed edge leads from u to v
abbrev pub is_edge : ℕ → ℕ → ℕ × ℕ → Bool
is_edge u v e = (e.0 == u) && (e.1 == v)

-- at how many places of the rings, or triangles, v follows u
abbrev pub edge_count : List (List ℕ) → ℕ → ℕ → ℕ
edge_count rings u v = count_by (is_edge u v) (flat_map ring_edges rings)

-- every directed edge occurs as often as its reverse
abbrev pub IsClosed : List (List ℕ) → Type 0
IsClosed triangles = (u v : ℕ) → edge_count triangles u v ≡ edge_count triangles v u

-- the edges without a reverse are those of some rings forwards and those of others backwards
abbrev pub LeavesOver : List (List ℕ) → List (List ℕ) → List (List ℕ) → Type 0
LeavesOver triangles forwards backwards =
    (u v : ℕ) → edge_count triangles u v + edge_count forwards v u + edge_count backwards u v ≡ edge_count triangles v u
    + edge_count forwards u v + edge_count backwards v u
