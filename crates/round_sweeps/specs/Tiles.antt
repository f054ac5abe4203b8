-- Costs of steps that count areas, by coordinates and edges: no step is counted for more than it costs.
use Rattle.std.specs.Prelude.{◌≡◌, ℕ, ◌+◌, ◌-◌, ◌*◌, ◌%◌, ◌<◌, ◌≤◌, ◌^◌, min, Bool, true, false, cond, ℤ, ◌-ℤ◌, unsigned_abs, List, length, slice_index_or, pos}
use Rattle.fku_types.specs.declared.limits.TheConstants.{MAX_DIFFERENCE, MAX_WEIGHT}
use Rattle.fku_types.specs.declared.points.Point.{Point}
use Rattle.fku_types.specs.declared.rules.CostRule.{CostRule}
use Rattle.fku_types.specs.Points.{square, IsCoordinate}
use Rattle.plane_geom.specs.Planes.{cross_product}
use Rattle.plane_geom.specs.Rings.{around}
use Rattle.strip_graph.specs.declared.tilings.Step.{Step}
use Rattle.strip_graph.specs.declared.tilings.Step.TheVariants.{V, H}
use Rattle.strip_graph.specs.Edges.{IsLevel}
use Rattle.strip_graph.specs.Strips.{Strip, IsStrip, arcs, rows, cols, area_square, rule_cost}
use Rattle.strip_graph.specs.Tilings.{IsChosen}
use Rattle.strip_graph.specs.Words.{Arcs, word_cost}
use Rattle.round_sweeps.specs.declared.tiles.TileEdge.{TileEdge}
use Rattle.round_sweeps.specs.declared.tiles.TileEnd.{TileEnd}
use Rattle.round_sweeps.specs.declared.weights.Weights.{Weights}
use Rattle.round_sweeps.specs.Columns.{most_cost}

-- the most that is counted of the upright part of a tile's squared doubled area, of the root of the other part, and of
-- both
abbrev pub most_upright : ℕ
most_upright = 2 ^ 46

abbrev pub most_side : ℕ
most_side = 14000000

abbrev pub most_area : ℕ
most_area = most_cost

-- an edge's vector and turn are in range
pub record FitsEdge (e : TileEdge) : Type 0 where
  pub x : unsigned_abs e.x ≤ MAX_DIFFERENCE
  pub y : unsigned_abs e.y ≤ MAX_DIFFERENCE
  pub turn : unsigned_abs e.turn ≤ 8000000000000
  pub upright : e.upright ≤ most_upright

pub record FitsEnd (e : TileEnd) : Type 0 where
  pub x : IsCoordinate e.x
  pub y : IsCoordinate e.y
  pub edge : FitsEdge e.edge

pub record FitWeights (w : Weights) : Type 0 where
  pub span : w.span ≤ MAX_WEIGHT
  pub area : w.area ≤ MAX_WEIGHT

-- the side of an edge on which a point lies, up to the most
abbrev pub counted_side : TileEdge → TileEnd → ℕ
counted_side e p = min most_side (unsigned_abs (cross_product e.x e.y p.x p.y -ℤ e.turn))

-- what is counted of the squared doubled area of the tile of an edge and a point
abbrev pub tile_area : TileEdge → TileEnd → ℕ
tile_area e p = e.upright + counted_side e p * counted_side e p

-- the squared span of two points whose heights lie so far apart
abbrev pub tile_span : TileEnd → TileEnd → ℕ → ℕ
tile_span p q rise = square (p.x -ℤ q.x) + square (p.y -ℤ q.y) + rise

-- the weighted cost of a step, up to the most
abbrev pub tile_cost : Weights → ℕ → ℕ → ℕ
tile_cost w span area = min most_cost (w.span * span + w.area * area)

-- a rule by weights
abbrev pub IsRuleOf : CostRule → Weights → Type 0
IsRuleOf rule w = (span area : ℕ) → rule_cost rule span area ≡ w.span * span + w.area * area

-- the edge from a to b, for tiles with points at height z
pub record IsTileEdge (e : TileEdge) (a b : Point) (z : ℤ) : Type 0 where
  pub fits : FitsEdge e
  pub area : (p : TileEnd) (q : Point) → p.x ≡ q.x → p.y ≡ q.y → q.z ≡ z → tile_area e p ≤ area_square a b q

-- a point, and the edge to it from the one before, or, turned, from it to the one before
pub record IsTileEnd (turned : Bool) (z : ℤ) (before here : Point) (e : TileEnd) : Type 0 where
  pub x : e.x ≡ here.x
  pub y : e.y ≡ here.y
  pub fits : FitsEnd e
  pub edge : IsTileEdge e.edge (cond turned here before) (cond turned before here) z

-- the first k points round a ring
pub record AreTileEnds (turned : Bool) (z : ℤ) (ring : List Point) (k : ℕ) (ends : List TileEnd) : Type 0 where
  pub count : length ends ≡ k
  pub are : (i : ℕ) (d : TileEnd) → i < k
      → IsTileEnd turned z (around ring (i + (length ring - 1))) (around ring i) (slice_index_or ends i d)

-- no point; it stands where a list has no item
abbrev pub no_end : TileEnd
no_end = record { x = pos 0; y = pos 0; edge = record { x = pos 0; y = pos 0; turn = pos 0; upright = 0 } }

-- the end of a row
abbrev pub end_at : List TileEnd → ℕ → TileEnd
end_at ends r = slice_index_or ends r no_end

pub record AreFitting (ends : List TileEnd) : Type 0 where
  pub fit : (r : ℕ) → r < length ends → FitsEnd (end_at ends r)

-- what is counted for the steps to the place of a row and of a column's end
abbrev pub row_span : List TileEnd → TileEnd → ℕ → ℕ → ℕ
row_span rows here rise r = tile_span (end_at rows r) here rise

abbrev pub down_cost : List TileEnd → TileEnd → ℕ → Weights → ℕ → ℕ
down_cost rows here rise w r = tile_cost w (row_span rows here rise r) (tile_area (end_at rows r).edge here)

abbrev pub right_cost : List TileEnd → TileEnd → ℕ → Weights → ℕ → ℕ
right_cost rows here rise w r = tile_cost w (row_span rows here rise r) (tile_area here.edge (end_at rows r))

-- what is counted for the steps of a strip whose rows and columns go round
abbrev pub tile_arcs : List TileEnd → List TileEnd → ℕ → Weights → Arcs
tile_arcs lows highs rise w r c V = down_cost lows (end_at highs (c % length highs)) rise w ((r + 1) % length lows)
tile_arcs lows highs rise w r c H = right_cost lows (end_at highs ((c + 1) % length highs)) rise w (r % length lows)

-- ends of rows and columns in range
pub record AreTiles (lows highs : List TileEnd) (rise : ℕ) (w : Weights) : Type 0 where
  pub some_rows : 0 < length lows
  pub some_cols : 0 < length highs
  pub rows_fit : AreFitting lows
  pub cols_fit : AreFitting highs
  pub rises : rise ≤ 4 * 10 ^ 12
  pub weighted : FitWeights w

-- the ends of a pair
pub record AreEndsOf (p : Strip) (lows highs : List TileEnd) (rise : ℕ) (w : Weights) : Type 0 where
  pub strip : IsStrip p
  pub low_level : IsLevel p.low
  pub high_level : IsLevel p.high
  pub low : AreTileEnds false (around p.high 0).z p.low (rows p) lows
  pub high : AreTileEnds true (around p.low 0).z p.high (cols p) highs
  pub rises : rise ≡ square ((around p.low 0).z -ℤ (around p.high 0).z)
  pub rule : IsRuleOf p.cost w

-- costs of which none is more than that of the pair's step
abbrev pub AreCounted : Strip → Arcs → Type 0
AreCounted p a = (i j : ℕ) (s : Step) → a i j s ≤ arcs p i j s

-- a tiling with its cost, chosen by what is counted for the steps
pub record IsCountedChoice (p : Strip) (row : ℕ) (word : List Step) (cost : ℤ) : Type 0 where
  pub counted : Arcs
  pub less : AreCounted p counted
  pub chosen : IsChosen counted (rows p) (cols p) row word
  pub costs : pos (word_cost counted row 0 word) ≡ cost
