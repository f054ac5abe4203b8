-- The steps of a pair cost squared spans, by the coordinates of its rings.
use Rattle.std.proofs.Common.{◌≡◌, ℕ, ◌+◌, ◌%◌, ◌<◌, ◌≤◌, ℤ, pos, ◌-ℤ◌, unsigned_abs, List, length, slice_index_or, ap, ap₂, sym, ◌∙◌, arith, mod-lt}
use Rattle.fku_types.specs.declared.points.Point.{Point}
use Rattle.fku_types.specs.declared.rules.CostRule.{CostRule}
use Rattle.fku_types.specs.declared.rules.CostRule.TheVariants.{Span}
use Rattle.fku_types.specs.Points.{square}
use Rattle.plane_geom.specs.Lengths.{distance_square}
use Rattle.plane_geom.specs.Rings.{around}
use Rattle.strip_graph.specs.Edges.{IsLevel}
use Rattle.strip_graph.specs.Strips.{Strip, IsStrip, arcs, rows, cols, rule_cost, area_square}
use Rattle.strip_graph.specs.declared.tilings.Step.{Step}
use Rattle.strip_graph.specs.Feasible.{IsRowPeriodic}
use Rattle.strip_graph.proofs.Around.{around-mod, arcs-periodic}
use Rattle.round_sweeps.specs.Columns.{at_row}
use Rattle.round_sweeps.specs.Planes.{ArePlanar, AreSpans, span_at}

-- the squared span of a place
pub place_cost : (low high : List Point) (xs ys us vs : List ℤ) (rise : ℤ) (n r c : ℕ) → 0 < length low
    → ArePlanar low (length low) xs ys → ArePlanar high (n + 1) us vs → IsLevel low → IsLevel high
    → rise ≡ pos (square ((around low 0).z -ℤ (around high 0).z)) → c ≤ n
    → span_at xs ys us vs rise (r % length xs) c ≡ distance_square (around low r) (around high c)
unfolding distance_square
place_cost low high xs ys us vs rise n r c some h g l t is le =
    let m : ℕ = length low in
    let p = around low r in
    let q = around high c in
    let lt : r % m < m = mod-lt r some in
    let row : around low (r % m) ≡ p = around-mod low r in
    let x : at_row xs (r % length xs) ≡ p.x = ap (λ (k : ℕ). at_row xs (r % k)) h.x_count ∙ h.x_are (r % m) (pos 0) lt
    ∙ ap (λ (a : Point). a.x) row in
    let y : at_row ys (r % length xs) ≡ p.y = ap (λ (k : ℕ). at_row ys (r % k)) h.x_count ∙ h.y_are (r % m) (pos 0) lt
    ∙ ap (λ (a : Point). a.y) row in
    let u : at_row us c ≡ q.x = g.x_are c (pos 0) (omega (arith, le)) in
    let v : at_row vs c ≡ q.y = g.y_are c (pos 0) (omega (arith, le)) in
    let dx : square (at_row xs (r % length xs) -ℤ at_row us c) ≡ square (p.x -ℤ q.x) =
    ap₂ (λ (a b : ℤ). square (a -ℤ b)) x u in
    let dy : square (at_row ys (r % length xs) -ℤ at_row vs c) ≡ square (p.y -ℤ q.y) =
    ap₂ (λ (a b : ℤ). square (a -ℤ b)) y v in
    let dz : unsigned_abs rise ≡ square (p.z -ℤ q.z) = ap unsigned_abs is
    ∙ ap₂ (λ (a b : ℤ). square (a -ℤ b)) (l 0 r) (t 0 c) in
    ap₂ (λ (a b : ℕ). a + b) (ap₂ (λ (a b : ℕ). a + b) dx dy) dz

-- a pair's strip by coordinates
pub spans_of : (p : Strip) (xs ys us vs : List ℤ) (rise : ℤ) → IsStrip p → p.cost ≡ Span → IsLevel p.low
    → IsLevel p.high → ArePlanar p.low (rows p) xs ys → ArePlanar p.high (cols p + 1) us vs
    → rise ≡ pos (square ((around p.low 0).z -ℤ (around p.high 0).z)) → AreSpans p xs ys us vs rise
unfolding arcs
spans_of p xs ys us vs rise strip rule l t h g is = record {
  row_count = h.x_count;
  col_count = g.x_count;
  down = λ r c lt le.
      ap (λ (k : CostRule). rule_cost k (distance_square (around p.low (r + 1)) (around p.high c))
      (area_square (around p.low r) (around p.low (r + 1)) (around p.high c))) rule
      ∙ sym (place_cost p.low p.high xs ys us vs rise (cols p) (r + 1) c some h g l t is le);
  right = λ r c lt le.
      ap (λ (k : CostRule). rule_cost k (distance_square (around p.low r) (around p.high (c + 1)))
      (area_square (around p.high (c + 1)) (around p.high c) (around p.low r))) rule
      ∙ sym (place_cost p.low p.high xs ys us vs rise (cols p) r (c + 1) some h g l t is (omega (arith, le)));
}
  where
    some : 0 < length p.low
    some = omega (arith, strip.low.enough)

-- coordinates under other names
planar_same : (ring ring' : List Point) (k k' : ℕ) (xs ys xs' ys' : List ℤ) → ring ≡ ring' → k ≡ k' → xs' ≡ xs
    → ys' ≡ ys → ArePlanar ring k xs ys → ArePlanar ring' k' xs' ys'
planar_same ring ring' k k' xs ys xs' ys' er ek ex ey h = record {
  x_count = ap length ex ∙ h.x_count ∙ ek;
  y_count = ap length ey ∙ h.y_count ∙ ek;
  x_are = λ c d lt. ap (λ (l : List ℤ). slice_index_or l c d) ex ∙ h.x_are c d (omega (arith, lt, ek))
      ∙ ap (λ (l : List Point). (around l c).x) er;
  y_are = λ c d lt. ap (λ (l : List ℤ). slice_index_or l c d) ey ∙ h.y_are c d (omega (arith, lt, ek))
      ∙ ap (λ (l : List Point). (around l c).y) er;
}

-- a pair's strip by the coordinates that were read
pub spans_read : (p : Strip) (low high : List Point) (m n : ℕ) (xs ys us vs zs ws os ps : List ℤ) (rise read : ℤ)
    → IsStrip p → p.cost ≡ Span → IsLevel p.low → IsLevel p.high → low ≡ p.low → high ≡ p.high → m ≡ length low
    → n ≡ length high → ArePlanar low m zs ws → ArePlanar high (n + 1) os ps → xs ≡ zs → ys ≡ ws → us ≡ os → vs ≡ ps
    → read ≡ pos (square ((around low 0).z -ℤ (around high 0).z)) → rise ≡ read → AreSpans p xs ys us vs rise
spans_read p low high m n xs ys us vs zs ws os ps rise read strip rule l t el eh em en h g ex ey eu ev is e =
    spans_of p xs ys us vs rise strip rule l t
    (planar_same low p.low m (rows p) zs ws xs ys el (em ∙ ap length el) ex ey h)
    (planar_same high p.high (n + 1) (cols p + 1) os ps us vs eh (ap (λ (k : ℕ). k + 1) (en ∙ ap length eh)) eu ev
    g)
    (e ∙ is ∙ ap₂ (λ (a b : List Point). pos (square ((around a 0).z -ℤ (around b 0).z))) el eh)

-- costs repeat round both rings
pub rows_read : (p q : Strip) (m : ℕ) → q ≡ p → m ≡ rows p → IsRowPeriodic (arcs q) m
rows_read p q m eq em = record {
  row = λ i j s. ap (λ (k : ℕ). arcs q (i + k) j s) (em ∙ sym (ap rows eq))
      ∙ (arcs-periodic q).row i j s;
}

pub cols_read : (p q : Strip) (n : ℕ) → q ≡ p → n ≡ cols p → (i j : ℕ) (s : Step) → arcs q i (j + n) s ≡ arcs q i j s
cols_read p q n eq en i j s = ap (λ (k : ℕ). arcs q i (j + k) s) (en ∙ sym (ap cols eq)) ∙ (arcs-periodic q).col i j s
