-- A strip laid out row by row and column by column.
use Rattle.std.specs.Prelude.{◌≡◌, ◌==◌, ℕ, ◌+◌, ◌*◌, ◌<◌, Bool, true, false, Option, IfSome, IsSome, List, length, slice_index_or}
use Rattle.fku_types.specs.declared.points.Point.{Point}
use Rattle.fku_types.specs.declared.rules.CostRule.{CostRule}
use Rattle.fku_types.specs.declared.rules.CostRule.TheVariants.{Span, Area, Mix}
use Rattle.plane_geom.specs.Rings.{around, origin}
use Rattle.strip_graph.specs.declared.tilings.Step.TheVariants.{V, H}
use Rattle.strip_graph.specs.declared.areas.Edge.{Edge}
use Rattle.strip_graph.specs.Edges.{IsEdge, AreEdges}
use Rattle.strip_graph.specs.Strips.{Strip, IsStrip, arcs, rows, cols}

-- the first k points round a ring
pub record IsUnrolled (ring points : List Point) (k : ℕ) : Type 0 where
  pub count : length points ≡ k
  pub are : (i : ℕ) → i < k → slice_index_or points i origin ≡ around ring i

-- the points of a strip's rows 0 to 2m and of its columns 0 to n, and the edges of its columns, if any
pub record IsLaidOut (p : Strip) (lows highs : List Point) (edges : List Edge) : Type 0 where
  pub strip : IsStrip p
  pub low : IsUnrolled p.low lows (2 * rows p + 1)
  pub high : IsUnrolled p.high highs (cols p + 1)
  pub level : 0 < length edges → AreEdges p.low p.high edges

-- both steps to a place cost the same, wherever they come from
abbrev pub IsByPlace : Strip → Type 0
IsByPlace s = (r c : ℕ) → arcs s r (c + 1) V ≡ arcs s (r + 1) c H

-- the rule counts no area
abbrev pub is_by_span : CostRule → Bool
is_by_span Span = true
is_by_span Area = false
is_by_span (Mix span area) = area == 0

-- a row of a strip
pub record StripRow : Type 0 where
  pub strip : Strip
  pub row : ℕ

-- the rule, the ends of the lower ring's edge, the points of the columns, and the edges, if any, that give the costs of
-- a row's steps
pub record IsStripRow (p : Strip) (row : ℕ) (rule : CostRule) (from to : Point) (points : List Point)
    (edge : Option Edge) (edges : List Edge) : Type 0 where
  pub strip : IsStrip p
  pub rule_is : rule ≡ p.cost
  pub from_is : from ≡ around p.low row
  pub to_is : to ≡ around p.low (row + 1)
  pub high : IsUnrolled p.high points (cols p + 1)
  pub row_edge : IfSome edge (λ e. IsEdge e from to (around p.high 0).z)
  pub col_edges : IsSome edge → AreEdges p.low p.high edges

-- the same for a row whose columns are counted round the upper ring
pub record IsRoundRow (p : Strip) (row : ℕ) (rule : CostRule) (from to : Point) (points : List Point) : Type 0 where
  pub strip : IsStrip p
  pub rule_is : rule ≡ p.cost
  pub from_is : from ≡ around p.low row
  pub to_is : to ≡ around p.low (row + 1)
  pub high : points ≡ p.high
