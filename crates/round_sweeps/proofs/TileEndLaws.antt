-- The ends of rings, one more at a time, and what they say of a pair's steps.
use Rattle.std.proofs.Common.{◌≡◌, ℕ, ◌+◌, ◌-◌, ◌*◌, ◌%◌, ◌<◌, ◌≤◌, ◌^◌, Bool, ℤ, pos, ◌-ℤ◌, List, [], ◌∷◌, ◌++◌, length, length-append, get_or, slice_index_or, inl, inr, ap, ap₂, sym, subst, subst₂, ◌∙◌, refl, arith, mul-le-mul, mod-eq_of_lt, mod-lt}
use Rattle.std.proofs.Math.Nat.{add-mod_right, mod-add-mod}
use Rattle.std.proofs.lemmas.Int.{ints}
use Rattle.std.proofs.lemmas.Bool.{cases_lt}
use Rattle.std.proofs.lemmas.List.{get_or_append_left, get_or_push}
use Rattle.fku_types.specs.declared.points.Point.{Point}
use Rattle.fku_types.specs.Points.{square}
use Rattle.fku_types.specs.declared.rules.CostRule.{CostRule}
use Rattle.plane_geom.specs.Lengths.{distance_square}
use Rattle.plane_geom.specs.Rings.{around, origin}
use Rattle.strip_graph.specs.declared.tilings.Step.{Step}
use Rattle.strip_graph.specs.declared.tilings.Step.TheVariants.{V, H}
use Rattle.strip_graph.specs.Strips.{Strip, arcs, rows, cols, area_square, rule_cost}
use Rattle.strip_graph.specs.Feasible.{IsRowPeriodic}
use Rattle.strip_graph.proofs.Around.{around-mod, around-more}
use Rattle.round_sweeps.specs.declared.tiles.TileEnd.{TileEnd}
use Rattle.round_sweeps.specs.declared.weights.Weights.{Weights}
use Rattle.round_sweeps.specs.Columns.{AreColumnCosts}
use Rattle.round_sweeps.specs.Tiles.{FitWeights, AreCounted, AreEndsOf, IsTileEnd, AreTileEnds, IsRuleOf, AreTiles, end_at, no_end, tile_area, tile_arcs, tile_span, tile_cost, down_cost, right_cost}

-- the last point of a ring is the one before its first, and a point the one before the next
pub last_before : (ring : List Point) → 3 ≤ length ring
    → slice_index_or ring (length ring - 1) origin ≡ around ring (0 + (length ring - 1))
unfolding around
last_before ring enough =
    let e : (0 + (length ring - 1)) % length ring ≡ 0 + (length ring - 1) = mod-eq_of_lt (omega (arith, enough)) in
    let f : length ring - 1 ≡ 0 + (length ring - 1) = omega arith in
    ap (λ (k : ℕ). slice_index_or ring k origin) (f ∙ sym e)

pub next_before : (ring : List Point) (k : ℕ) → 3 ≤ length ring
    → around ring k ≡ around ring (k + 1 + (length ring - 1))
next_before ring k enough =
    let e : k + length ring ≡ k + 1 + (length ring - 1) = omega (arith, enough) in
    sym (around-more ring k) ∙ ap (around ring) e

-- one more end
pub ends_more : (turned : Bool) (z : ℤ) (ring : List Point) (k : ℕ) (xs ys : List TileEnd) (x : TileEnd)
    → AreTileEnds turned z ring k xs → ys ≡ xs ++ x ∷ []
    → IsTileEnd turned z (around ring (k + (length ring - 1))) (around ring k) x → AreTileEnds turned z ring (k + 1) ys
ends_more turned z ring k xs ys x h e last = record {
  count = ap length e ∙ length-append xs (x ∷ []) ∙ ap (λ (j : ℕ). j + 1) h.count;
  are = λ i d lt. elim (cases_lt i k) [
    | inl less ↦ subst (Holds i) (sym (ap (λ (l : List TileEnd). get_or l i d) e
        ∙ get_or_append_left xs (x ∷ []) d i (omega (arith, h.count, less)))) (h.are i d less)
    | inr ge ↦ (let here : k ≡ i = omega (arith, lt, ge) in
        subst (λ (j : ℕ). Holds j (get_or ys j d)) here
        (subst (Holds k) (sym (ap (λ (l : List TileEnd). get_or l k d) e ∙ get_or_push xs x d k h.count)) last))
  ];
}
  where
    Holds : ℕ → TileEnd → Type 0
    Holds i y = IsTileEnd turned z (around ring (i + (length ring - 1))) (around ring i) y

-- a step by its squared span and its tile
cost_counted : (rule : CostRule) (w : Weights) (span counted area : ℕ) → IsRuleOf rule w → counted ≤ area
    → tile_cost w span counted ≤ rule_cost rule span area
cost_counted rule w span counted area is le =
    let same : w.area ≤ w.area = omega arith in
    let h : w.area * counted ≤ w.area * area = mul-le-mul same le in
    omega (arith, h, is span area)

-- the squared span of two ends
pub span_counted : (p q : Point) (a b : TileEnd) (rise : ℕ) → a.x ≡ p.x → a.y ≡ p.y → b.x ≡ q.x → b.y ≡ q.y
    → rise ≡ square (p.z -ℤ q.z) → tile_span a b rise ≡ distance_square p q
unfolding distance_square
span_counted p q a b rise ax ay bx by' r =
    ap₂ (λ (s t : ℕ). s + t) (ap₂ (λ (s t : ℕ). s + t) (ap₂ (λ (u v : ℤ). square (u -ℤ v)) ax bx)
    (ap₂ (λ (u v : ℤ). square (u -ℤ v)) ay by')) r

-- no step is counted for more than it costs
down_less : (p : Strip) (lows highs : List TileEnd) (rise : ℕ) (w : Weights) → AreEndsOf p lows highs rise w
    → (r s c d : ℕ) → around p.low (s + (rows p - 1)) ≡ around p.low r → around p.low s ≡ around p.low (r + 1)
    → around p.high d ≡ around p.high c → s < rows p → d < cols p
    → down_cost lows (end_at highs d) rise w s ≤ arcs p r c V
unfolding arcs
down_less p lows highs rise w h r s c d before here there lt le =
    let a = h.low.are s no_end lt in
    let b = h.high.are d no_end le in
    let z : (around p.high c).z ≡ (around p.high 0).z = h.high_level c 0 in
    let bx = b.x ∙ ap (λ (q : Point). q.x) there in
    let by' = b.y ∙ ap (λ (q : Point). q.y) there in
    let rises : rise ≡ square ((around p.low (r + 1)).z -ℤ (around p.high c).z) = h.rises
    ∙ ap₂ (λ (x y : ℤ). square (x -ℤ y)) (h.low_level 0 (r + 1)) (h.high_level 0 c) in
    let span = span_counted (around p.low (r + 1)) (around p.high c) (end_at lows s) (end_at highs d) rise
    (a.x ∙ ap (λ (q : Point). q.x) here) (a.y ∙ ap (λ (q : Point). q.y) here) bx by' rises in
    let area : tile_area (end_at lows s).edge (end_at highs d) ≤ area_square (around p.low r) (around p.low (r + 1))
    (around p.high c) =
    subst₂ (λ (x y : Point). tile_area (end_at lows s).edge (end_at highs d) ≤ area_square x y (around p.high c)) before
    here (a.edge.area (end_at highs d) (around p.high c) bx by' z) in
    subst (λ (k : ℕ). tile_cost w k (tile_area (end_at lows s).edge (end_at highs d)) ≤ rule_cost p.cost
    (distance_square (around p.low (r + 1)) (around p.high c))
    (area_square (around p.low r) (around p.low (r + 1)) (around p.high c))) (sym span)
    (cost_counted p.cost w (distance_square (around p.low (r + 1)) (around p.high c))
    (tile_area (end_at lows s).edge (end_at highs d))
    (area_square (around p.low r) (around p.low (r + 1)) (around p.high c)) h.rule area)

right_less : (p : Strip) (lows highs : List TileEnd) (rise : ℕ) (w : Weights) → AreEndsOf p lows highs rise w
    → (r s c d : ℕ) → around p.low s ≡ around p.low r → around p.high (d + (cols p - 1)) ≡ around p.high c
    → around p.high d ≡ around p.high (c + 1) → s < rows p → d < cols p
    → right_cost lows (end_at highs d) rise w s ≤ arcs p r c H
unfolding arcs
right_less p lows highs rise w h r s c d here before there lt le =
    let a = h.low.are s no_end lt in
    let b = h.high.are d no_end le in
    let z : (around p.low r).z ≡ (around p.low 0).z = h.low_level r 0 in
    let ax = a.x ∙ ap (λ (q : Point). q.x) here in
    let ay = a.y ∙ ap (λ (q : Point). q.y) here in
    let rises : rise ≡ square ((around p.low r).z -ℤ (around p.high (c + 1)).z) = h.rises
    ∙ ap₂ (λ (x y : ℤ). square (x -ℤ y)) (h.low_level 0 r) (h.high_level 0 (c + 1)) in
    let span = span_counted (around p.low r) (around p.high (c + 1)) (end_at lows s) (end_at highs d) rise ax ay
    (b.x ∙ ap (λ (q : Point). q.x) there) (b.y ∙ ap (λ (q : Point). q.y) there) rises in
    let area : tile_area (end_at highs d).edge (end_at lows s) ≤ area_square (around p.high (c + 1)) (around p.high c)
    (around p.low r) =
    subst₂ (λ (x y : Point). tile_area (end_at highs d).edge (end_at lows s) ≤ area_square x y (around p.low r)) there
    before (b.edge.area (end_at lows s) (around p.low r) ax ay z) in
    subst (λ (k : ℕ). tile_cost w k (tile_area (end_at highs d).edge (end_at lows s)) ≤ rule_cost p.cost
    (distance_square (around p.low r) (around p.high (c + 1)))
    (area_square (around p.high (c + 1)) (around p.high c) (around p.low r))) (sym span)
    (cost_counted p.cost w (distance_square (around p.low r) (around p.high (c + 1)))
    (tile_area (end_at highs d).edge (end_at lows s))
    (area_square (around p.high (c + 1)) (around p.high c) (around p.low r)) h.rule area)

-- the point before the one at a remainder
before_round : (ring : List Point) (k : ℕ) → 3 ≤ length ring
    → around ring ((k + 1) % length ring + (length ring - 1)) ≡ around ring k
before_round ring k enough =
    let n = length ring in
    let e : k + 1 + (n - 1) ≡ k + n = omega (arith, enough) in
    sym (around-mod ring ((k + 1) % n + (n - 1))) ∙ ap (around ring) (mod-add-mod (k + 1) n (n - 1))
    ∙ around-mod ring (k + 1 + (n - 1)) ∙ ap (around ring) e ∙ around-more ring k

counted_of : (p : Strip) (lows highs : List TileEnd) (rise : ℕ) (w : Weights) (m n : ℕ) → length lows ≡ m
    → length highs ≡ n → m ≡ rows p → n ≡ cols p → AreEndsOf p lows highs rise w → (i j : ℕ) (s : Step)
    → tile_arcs lows highs rise w i j s ≤ arcs p i j s
counted_of p lows highs rise w m n em en e f h i j V = rw (em ∙ e, en ∙ f)
    (down_less p lows highs rise w h i ((i + 1) % rows p) j (j % cols p) (before_round p.low i h.strip.low.enough)
    (around-mod p.low (i + 1)) (around-mod p.high j) (mod-lt (i + 1) (omega (arith, h.strip.low.enough)))
    (mod-lt j (omega (arith, h.strip.high.enough))))
counted_of p lows highs rise w m n em en e f h i j H = rw (em ∙ e, en ∙ f)
    (right_less p lows highs rise w h i (i % rows p) j ((j + 1) % cols p) (around-mod p.low i)
    (before_round p.high j h.strip.high.enough) (around-mod p.high (j + 1))
    (mod-lt i (omega (arith, h.strip.low.enough))) (mod-lt (j + 1) (omega (arith, h.strip.high.enough))))

pub ends_counted : (p : Strip) (lows highs : List TileEnd) (rise : ℕ) (w : Weights) → AreEndsOf p lows highs rise w
    → AreCounted p (tile_arcs lows highs rise w)
ends_counted p lows highs rise w h =
    counted_of p lows highs rise w (rows p) (cols p) h.low.count h.high.count refl refl h

-- they are in range
pub ends_fit : (p : Strip) (lows highs : List TileEnd) (rise : ℕ) (w : Weights) → AreEndsOf p lows highs rise w
    → rise ≤ 4 * 10 ^ 12 → FitWeights w → AreTiles lows highs rise w
ends_fit p lows highs rise w h small weighted = record {
  some_rows = omega (arith, h.low.count, h.strip.low.enough);
  some_cols = omega (arith, h.high.count, h.strip.high.enough);
  rows_fit = record { fit = λ r lt. (h.low.are r no_end (omega (arith, lt, h.low.count))).fits };
  cols_fit = record { fit = λ c lt. (h.high.are c no_end (omega (arith, lt, h.high.count))).fits };
  rises = small;
  weighted = weighted;
}

-- what is counted repeats round both rings
pub tile_rows : (lows highs : List TileEnd) (rise : ℕ) (w : Weights)
    → IsRowPeriodic (tile_arcs lows highs rise w) (length lows)
tile_rows lows highs rise w = record { row = row }
  where
    m : ℕ
    m = length lows

    row : (i j : ℕ) (s : Step) → tile_arcs lows highs rise w (i + m) j s ≡ tile_arcs lows highs rise w i j s
    row i j V = let e : i + m + 1 ≡ i + 1 + m = omega arith in
        ap (down_cost lows (end_at highs (j % length highs)) rise w) (ap (λ (k : ℕ). k % m) e ∙ add-mod_right (i + 1) m)
    row i j H = ap (right_cost lows (end_at highs ((j + 1) % length highs)) rise w) (add-mod_right i m)

pub tile_cols : (lows highs : List TileEnd) (rise : ℕ) (w : Weights) (i j : ℕ) (s : Step)
    → tile_arcs lows highs rise w i (j + length highs) s ≡ tile_arcs lows highs rise w i j s
tile_cols lows highs rise w i j V =
    ap (λ (k : ℕ). down_cost lows (end_at highs k) rise w ((i + 1) % length lows)) (add-mod_right j (length highs))
tile_cols lows highs rise w i j H = let e : j + length highs + 1 ≡ j + 1 + length highs = omega arith in
    ap (λ (k : ℕ). right_cost lows (end_at highs k) rise w (i % length lows))
    (ap (λ (k : ℕ). k % length highs) e ∙ add-mod_right (j + 1) (length highs))

-- the columns of a strip of ends
pub tile_columns : (lows highs : List TileEnd) (rise : ℕ) (w : Weights) (c d : ℕ) → 0 < length lows
    → d ≡ c % length highs → AreColumnCosts (tile_arcs lows highs rise w) (length lows) c
    (λ r. pos (down_cost lows (end_at highs d) rise w r)) (λ r. pos (right_cost lows (end_at highs d) rise w r))
tile_columns lows highs rise w c d some e = record {
  down = λ r lt. ap₂ (λ (j k : ℕ). pos (down_cost lows (end_at highs j) rise w k)) e (sym (mod-eq_of_lt lt));
  round = λ r last. ap₂ (λ (j k : ℕ). pos (down_cost lows (end_at highs j) rise w k)) e (sym (first r last));
  right = λ r k lt is. ap₂ (λ (j i : ℕ). pos (right_cost lows (end_at highs j) rise w i))
      (e ∙ ap (λ (x : ℕ). x % length highs) is) (sym (mod-eq_of_lt lt));
  small = λ r lt. omega (arith, ints);
}
  where
    first : (r : ℕ) → r + 1 ≡ length lows → (r + 1) % length lows ≡ 0
    first r last = let z : r + 1 ≡ 0 + length lows = omega (arith, last) in ap (λ (k : ℕ). k % length lows) z
        ∙ add-mod_right 0 (length lows) ∙ mod-eq_of_lt some
