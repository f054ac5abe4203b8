-- Edges whose ends lie at one height.
use Rattle.std.specs.Prelude.{◌≡◌, ℕ, ◌+◌, ◌*◌, ◌<◌, ◌≤◌, ◌^◌, ℤ, ◌-ℤ◌, unsigned_abs, List, length, slice_index_or}
use Rattle.fku_types.specs.declared.limits.TheConstants.{MAX_DIFFERENCE}
use Rattle.fku_types.specs.declared.points.Point.{Point}
use Rattle.fku_types.specs.Points.{square}
use Rattle.plane_geom.specs.Rings.{around}
use Rattle.plane_geom.specs.Planes.{cross_product}
use Rattle.strip_graph.specs.declared.areas.Edge.{Edge}
use Rattle.strip_graph.specs.Strips.{area_square}

-- the squared doubled area of the tile of an edge and a point across
abbrev pub edge_area : Edge → Point → ℕ
edge_area e q = e.upright + square (cross_product e.x e.y q.x q.y -ℤ e.turn)

-- the edge from a to b, for its tiles with points at height z
pub record IsEdge (e : Edge) (a b : Point) (z : ℤ) : Type 0 where
  pub x : unsigned_abs e.x ≤ MAX_DIFFERENCE
  pub y : unsigned_abs e.y ≤ MAX_DIFFERENCE
  pub turn : unsigned_abs e.turn ≤ 8000000000000
  pub upright : e.upright ≤ 192 * 10 ^ 24
  pub area : (q : Point) → q.z ≡ z → edge_area e q ≡ area_square a b q

-- all points of a ring lie at one height
abbrev pub IsLevel : List Point → Type 0
IsLevel ring = (j k : ℕ) → (around ring j).z ≡ (around ring k).z

-- the edges of an upper ring, each from its end to its start, where both rings are level
pub record AreEdges (low high : List Point) (edges : List Edge) : Type 0 where
  pub low_level : IsLevel low
  pub high_level : IsLevel high
  pub count : length edges ≡ length high
  pub are : (k r : ℕ) (d : Edge) → k < length high
      → IsEdge (slice_index_or edges k d) (around high (k + 1)) (around high k) (around low r).z
