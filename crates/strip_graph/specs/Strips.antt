-- The strip between two rings, and the cost of its steps.
use Rattle.std.specs.Prelude.{ℕ, ◌+◌, ◌*◌, ◌^◌, ◌-ℤ◌, List, length}
use Rattle.fku_types.specs.declared.points.Point.{Point}
use Rattle.fku_types.specs.declared.rules.CostRule.{CostRule}
use Rattle.fku_types.specs.declared.rules.CostRule.TheVariants.{Span, Area, Mix}
use Rattle.fku_types.specs.Rules.{IsWeighted}
use Rattle.fku_types.specs.Points.{square}
use Rattle.plane_geom.specs.Rings.{IsRing, around}
use Rattle.plane_geom.specs.Planes.{cross_product}
use Rattle.plane_geom.specs.Lengths.{distance_square}
use Rattle.strip_graph.specs.declared.tilings.Step.TheVariants.{V, H}
use Rattle.strip_graph.specs.Words.{Arcs}

-- a pair of rings with their ids, and a cost rule
pub record Strip : Type 0 where
  pub low : List Point
  pub low_ids : List ℕ
  pub high : List Point
  pub high_ids : List ℕ
  pub cost : CostRule

-- how many points the lower ring has, and the upper ring
abbrev pub rows : Strip → ℕ
rows p = length p.low

abbrev pub cols : Strip → ℕ
cols p = length p.high

-- the squared length of the cross product of (b - a) and (c - a), that is the squared doubled area of the triangle
unfoldable pub area_square : Point → Point → Point → ℕ
area_square a b c =
    square (cross_product (b.y -ℤ a.y) (b.z -ℤ a.z) (c.y -ℤ a.y) (c.z -ℤ a.z))
    + square (cross_product (b.z -ℤ a.z) (b.x -ℤ a.x) (c.z -ℤ a.z) (c.x -ℤ a.x))
    + square (cross_product (b.x -ℤ a.x) (b.y -ℤ a.y) (c.x -ℤ a.x) (c.y -ℤ a.y))

-- what a step costs under a rule, by the squared span that it leads to and its tile's area_square
abbrev pub rule_cost : CostRule → ℕ → ℕ → ℕ
rule_cost Span span area = span
rule_cost Area span area = area
rule_cost (Mix a b) span area = a * span + b * area

-- every step costs less than this
abbrev pub step_cost_limit : ℕ
step_cost_limit = 2 * 10 ^ 29

-- what the step V costs along the lower ring's edge from a to b, where q is the upper end of its spans
abbrev pub v_cost : CostRule → Point → Point → Point → ℕ
v_cost rule a b q = rule_cost rule (distance_square b q) (area_square a b q)

-- what the step H costs along the upper ring's edge from a to b, where p is the lower end of its spans
abbrev pub h_cost : CostRule → Point → Point → Point → ℕ
h_cost rule a b p = rule_cost rule (distance_square p b) (area_square b a p)

-- the cost of the step from the span of row i and column j
abbrev pub step_cost : CostRule → List Point → List Point → Arcs
step_cost rule low high i j V = v_cost rule (around low i) (around low (i + 1)) (around high j)
step_cost rule low high i j H = h_cost rule (around high j) (around high (j + 1)) (around low i)

-- the cost of the steps of a strip
unfoldable pub arcs : Strip → Arcs
arcs s = step_cost s.cost s.low s.high

-- both rings have 3 to MAX_COMPOSITE_VERTICES points in range, and the rule's weights are in theirs
pub record IsStrip (s : Strip) : Type 0 where
  pub low : IsRing s.low
  pub high : IsRing s.high
  pub cost : IsWeighted s.cost
