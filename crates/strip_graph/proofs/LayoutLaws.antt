-- The costs of a row's steps, by the points that are laid out.
use Rattle.std.proofs.Common.{◌≡◌, ℕ, ◌+◌, ◌*◌, ◌<◌, ◌≤◌, ℤ, Option, Some, None, Bor, List, length, sym, ap, ap₂, ◌∙◌, refl, subst, arith, slice_index_or}
use Rattle.std.proofs.lemmas.Bool.{false≢true}
use Rattle.std.proofs.lemmas.List.{get_or_read}
use Rattle.std.specs.Prelude.{⊤, IfSome, IsSome, option_copied}
use Rattle.fku_types.specs.declared.points.Point.{Point}
use Rattle.fku_types.specs.declared.rules.CostRule.{CostRule}
use Rattle.fku_types.specs.declared.rules.CostRule.TheVariants.{Span, Area, Mix}
use Rattle.fku_types.specs.Points.{IsInRange}
use Rattle.fku_types.specs.Rules.{IsWeighted}
use Rattle.plane_geom.specs.Rings.{IsRing, around, origin}
use Rattle.strip_graph.specs.declared.tilings.Step.TheVariants.{V, H}
use Rattle.strip_graph.specs.Strips.{Strip, arcs, step_cost, rows, cols, v_cost, h_cost}
use Rattle.strip_graph.specs.declared.areas.Edge.{Edge}
use Rattle.strip_graph.specs.Edges.{IsEdge}
use Rattle.strip_graph.specs.Layouts.{IsByPlace, IsLaidOut, StripRow, IsStripRow, IsRoundRow}
use Rattle.strip_graph.proofs.Bounds.{around-in_range}

-- a rule under which the cost of a step depends only on the span that it leads to
abbrev pub IsBySpan : CostRule → Type 0
IsBySpan Span = ⊤
IsBySpan Area = ⊥
IsBySpan (Mix a b) = b ≡ 0

-- a point of a ring is in range
pub point_fits : (ring : List Point) (k : ℕ) (p : Point) → IsRing ring → p ≡ around ring k → IsInRange p
point_fits ring k p r e = subst IsInRange (sym e) (around-in_range ring k r)

no_area : (m b x y : ℕ) → b ≡ 0 → m + b * x ≡ m + b * y
no_area m b x y e = omega (arith, ap (λ (k : ℕ). k * x) e, ap (λ (k : ℕ). k * y) e)

-- both steps to a place lead to one span
by_place : (rule : CostRule) (s : Strip) (r c : ℕ) → IsBySpan rule
    → step_cost rule s.low s.high r (c + 1) V ≡ step_cost rule s.low s.high (r + 1) c H
by_place Span s r c e = refl
by_place (Mix a b) s r c e = no_area _ b _ _ e
by_place Area s r c e = absurd e

pub arcs_by_place : (s : Strip) → IsBySpan s.cost → IsByPlace s
unfolding arcs
arcs_by_place s e r c = by_place s.cost s r c e

-- a step's cost by an equal rule and equal points
v_cost_is : (s : Strip) (row col : ℕ) (rule : CostRule) (from to q : Point) → rule ≡ s.cost → from ≡ around s.low row
    → to ≡ around s.low (row + 1) → q ≡ around s.high col → v_cost rule from to q ≡ arcs s row col V
unfolding arcs
v_cost_is s row col rule from to q e f g h = ap (λ (x : CostRule). v_cost x from to q) e
    ∙ ap (λ (a : Point). v_cost s.cost a to q) f ∙ ap₂ (λ (b c : Point). v_cost s.cost (around s.low row) b c) g h

h_cost_is : (s : Strip) (row col : ℕ) (rule : CostRule) (from to p : Point) → rule ≡ s.cost → from ≡ around s.high col
    → to ≡ around s.high (col + 1) → p ≡ around s.low row → h_cost rule from to p ≡ arcs s row col H
unfolding arcs
h_cost_is s row col rule from to p e f g h = ap (λ (x : CostRule). h_cost x from to p) e
    ∙ ap (λ (a : Point). h_cost s.cost a to p) f ∙ ap₂ (λ (b c : Point). h_cost s.cost (around s.high col) b c) g h

-- the same for a row whose points are laid out
pub row_v_cost : (s : Strip) (row col : ℕ) (rule : CostRule) (from to : Point) (points : List Point)
    (edge : Option Edge) (edges : List Edge) (r : StripRow) → IsStripRow s row rule from to points edge edges
    → r ≡ record { strip = s; row = row } → col ≤ cols s
    → v_cost rule from to (slice_index_or points col origin) ≡ arcs r.strip r.row col V
row_v_cost s row col rule from to points edge edges r k e le =
    v_cost_is s row col rule from to (slice_index_or points col origin) k.rule_is k.from_is k.to_is
    (k.high.are col (omega arith)) ∙ ap (λ (x : StripRow). arcs x.strip x.row col V) (sym e)

pub row_h_cost : (s : Strip) (row col : ℕ) (rule : CostRule) (from to : Point) (points : List Point)
    (edge : Option Edge) (edges : List Edge) (r : StripRow) → IsStripRow s row rule from to points edge edges
    → r ≡ record { strip = s; row = row } → col < cols s
    → h_cost rule (slice_index_or points col origin) (slice_index_or points (col + 1) origin) from
    ≡ arcs r.strip r.row col H
row_h_cost s row col rule from to points edge edges r k e lt =
    h_cost_is s row col rule (slice_index_or points col origin) (slice_index_or points (col + 1) origin) from k.rule_is
    (k.high.are col (omega arith)) (k.high.are (col + 1) (omega arith)) k.from_is
    ∙ ap (λ (x : StripRow). arcs x.strip x.row col H) (sym e)

some_is : {X : Type 0} (P Q : X → Type 0) (o : Option X) → ((x : X) → o ≡ Some x → P x → Q x) → IfSome o P → IfSome o Q
some_is P Q None f p = p
some_is P Q (Some x) f p = f x refl p

-- the ends of a row's edge, and the point of the first column, where a strip is laid out
pub laid_ends : (p : Strip) (lows highs : List Point) (edges : List Edge) (row : ℕ) (from to : Point)
    → IsLaidOut p lows highs edges → row < 2 * rows p → from ≡ slice_index_or lows row from
    → to ≡ slice_index_or lows (row + 1) to
    → (from ≡ around p.low row) × (to ≡ around p.low (row + 1))
laid_ends p lows highs edges row from to k lt e f = (
  get_or_read lows row from (omega (arith, k.low.count)) e origin ∙ k.low.are row (omega arith),
  get_or_read lows (row + 1) to (omega (arith, k.low.count)) f origin ∙ k.low.are (row + 1) (omega arith),
)

pub laid_first : (p : Strip) (lows highs : List Point) (edges : List Edge) (first : Point)
    → IsLaidOut p lows highs edges → first ≡ slice_index_or highs 0 first → first ≡ around p.high 0
laid_first p lows highs edges first k e = get_or_read highs 0 first (omega (arith, k.high.count)) e origin
    ∙ k.high.are 0 (omega arith)

-- the row that they make
pub laid_row : (p : Strip) (lows highs : List Point) (edges : List Edge) (row : ℕ) (rule : CostRule) (from to : Point)
    (edge : Option Edge) → IsLaidOut p lows highs edges → rule ≡ p.cost → from ≡ around p.low row
    → to ≡ around p.low (row + 1)
    → IfSome edge (λ e. (0 < length edges) × IsEdge e from to (around p.high 0).z)
    → IsStripRow p row rule from to highs edge edges
laid_row p lows highs edges row rule from to edge k is e f found = record {
  strip = k.strip;
  rule_is = is;
  from_is = e;
  to_is = f;
  high = k.high;
  row_edge = some_is Has (λ x. IsEdge x from to (around p.high 0).z) edge (λ x h q. q.1) found;
  col_edges = λ some. k.level (more edge some found);
}
  where
    Has : Edge → Type 0
    Has x = (0 < length edges) × IsEdge x from to (around p.high 0).z

    more : (o : Option Edge) → IsSome o → IfSome o Has → 0 < length edges
    more None some h = absurd (false≢true some)
    more (Some x) some h = h.0

-- its rule's weights and its points are in range
pub row_fits : (s : Strip) (row : ℕ) (rule : CostRule) (from to : Point) (points : List Point) (edge : Option Edge)
    (edges : List Edge) → IsStripRow s row rule from to points edge edges
    → IsWeighted rule × IsInRange from × IsInRange to
    × ((col : ℕ) → col ≤ cols s → IsInRange (slice_index_or points col origin))
row_fits s row rule from to points edge edges k = (
  subst IsWeighted (sym k.rule_is) k.strip.cost,
  point_fits s.low row from k.strip.low k.from_is,
  point_fits s.low (row + 1) to k.strip.low k.to_is,
  λ col le. point_fits s.high col (slice_index_or points col origin) k.strip.high (k.high.are col (omega arith)),
)

-- its edge holds for all columns
pub row_edge : (s : Strip) (row col : ℕ) (rule : CostRule) (from to : Point) (points : List Point) (edge : Option Edge)
    (edges : List Edge) → IsStripRow s row rule from to points edge edges → col ≤ cols s
    → IfSome edge (λ e. IsEdge e from to (slice_index_or points col origin).z)
row_edge s row col rule from to points edge edges k le =
    some_is (λ e. IsEdge e from to (around s.high 0).z) (λ e. IsEdge e from to (slice_index_or points col origin).z)
    edge
    (λ e is p. subst (λ (z : ℤ). IsEdge e from to z)
    ((k.col_edges (subst IsSome (sym is) refl)).high_level 0 col
    ∙ ap (λ (q : Point). q.z) (sym (k.high.are col (omega arith)))) p) k.row_edge

pub behind : {X : Type 0} (P : X → Type 0) (o : Option (Bor X)) → IfSome (option_copied o) P → IfSome o (λ e. P e.now)
behind P None p = p
behind P (Some x) p = p

-- the edges of the columns hold for all rows
pub col_edge : (s : Strip) (row col : ℕ) (rule : CostRule) (from to : Point) (points : List Point) (edge : Option Edge)
    (edges : List Edge) (r : StripRow) (d : Edge) → IsStripRow s row rule from to points edge edges
    → r ≡ record { strip = s; row = row } → IsSome edge → col < cols r.strip
    → IsEdge (slice_index_or edges col d) (around r.strip.high (col + 1)) (around r.strip.high col)
    (around r.strip.low r.row).z
col_edge s row col rule from to points edge edges r d k e some lt =
    subst (λ (x : StripRow). IsEdge (slice_index_or edges col d) (around x.strip.high (col + 1))
    (around x.strip.high col) (around x.strip.low x.row).z) (sym e)
    ((k.col_edges some).are col row d (subst (λ (x : StripRow). col < cols x.strip) e lt))

-- the same for a row whose columns are counted round
pub round_row_fits : (s : Strip) (row : ℕ) (rule : CostRule) (from to : Point) (points : List Point)
    → IsRoundRow s row rule from to points → IsWeighted rule × IsInRange from × IsInRange to × IsRing points
round_row_fits s row rule from to points k = (
  subst IsWeighted (sym k.rule_is) k.strip.cost,
  point_fits s.low row from k.strip.low k.from_is,
  point_fits s.low (row + 1) to k.strip.low k.to_is,
  subst IsRing (sym k.high) k.strip.high,
)

pub round_v_cost : (s : Strip) (row col : ℕ) (rule : CostRule) (from to q : Point) (points : List Point) (r : StripRow)
    → IsRoundRow s row rule from to points → r ≡ record { strip = s; row = row } → q ≡ around points col
    → v_cost rule from to q ≡ arcs r.strip r.row col V
round_v_cost s row col rule from to q points r k e d =
    v_cost_is s row col rule from to q k.rule_is k.from_is k.to_is (d ∙ ap (λ (x : List Point). around x col) k.high)
    ∙ ap (λ (x : StripRow). arcs x.strip x.row col V) (sym e)

pub round_h_cost : (s : Strip) (row col : ℕ) (rule : CostRule) (from to p q : Point) (points : List Point)
    (r : StripRow) → IsRoundRow s row rule from to points → r ≡ record { strip = s; row = row } → p ≡ around points col
    → q ≡ around points (col + 1) → h_cost rule p q from ≡ arcs r.strip r.row col H
round_h_cost s row col rule from to p q points r k e d d' =
    h_cost_is s row col rule p q from k.rule_is (d ∙ ap (λ (x : List Point). around x col) k.high)
    (d' ∙ ap (λ (x : List Point). around x (col + 1)) k.high) k.from_is
    ∙ ap (λ (x : StripRow). arcs x.strip x.row col H) (sym e)
