-- Bounds on the costs of steps, words and distances.
use Rattle.std.proofs.Common.{◌≡◌, ℕ, ◌+◌, ◌-◌, ◌*◌, ◌^◌, ◌%◌, ◌<◌, ◌≤◌, List, [], ◌∷◌, length, ℤ, ◌-ℤ◌, ◌*ℤ◌, unsigned_abs, arith, ap, subst, sym, mul-le-mul, mod-lt}
use Rattle.std.proofs.lemmas.Int.{ints}
use Rattle.fku_types.specs.declared.limits.TheConstants.{MAX_STEPS}
use Rattle.fku_types.specs.declared.points.Point.{Point}
use Rattle.fku_types.specs.declared.rules.CostRule.{CostRule}
use Rattle.fku_types.specs.declared.rules.CostRule.TheVariants.{Span, Area, Mix}
use Rattle.fku_types.specs.Rules.{IsWeighted}
use Rattle.fku_types.specs.Points.{square, IsInRange}
use Rattle.plane_geom.specs.Rings.{IsRing, around, origin}
use Rattle.strip_graph.specs.declared.tilings.Step.{Step}
use Rattle.strip_graph.specs.declared.tilings.Step.TheVariants.{V, H}
use Rattle.strip_graph.specs.Words.{Arcs, word_cost, count_v, count_h}
use Rattle.plane_geom.specs.Planes.{cross_product}
use Rattle.plane_geom.specs.Lengths.{distance_square}
use Rattle.strip_graph.specs.Strips.{Strip, IsStrip, rows, cols, rule_cost, step_cost_limit, arcs, step_cost, area_square}
use Rattle.strip_graph.specs.Tilings.{IsAcceptable}
use Rattle.strip_graph.specs.Distances.{distance}
use Rattle.strip_graph.proofs.LeastWords.{distance-reached}
use Rattle.plane_geom.proofs.ProductBounds.{product-le, difference-le}

pub around-in_range : (ring : List Point) (k : ℕ) → IsRing ring → IsInRange (around ring k)
unfolding around
around-in_range ring k r = r.in_range (k % length ring) origin (mod-lt k (omega (arith, r.enough)))

pub square-le : (v : ℤ) (n : ℕ) → unsigned_abs v ≤ n → square v ≤ n * n
unfolding square
square-le v n h = mul-le-mul h h

gap : (x y : ℤ) → unsigned_abs x ≤ 999999 → unsigned_abs y ≤ 999999 → unsigned_abs (x -ℤ y) ≤ 1999998
gap x y h k = omega (arith, ints)

cross-le : (a b c d : ℤ) → unsigned_abs a ≤ 1999998 → unsigned_abs b ≤ 1999998 → unsigned_abs c ≤ 1999998
    → unsigned_abs d ≤ 1999998 → unsigned_abs (cross_product a b c d) ≤ 8000000000000
cross-le a b c d p q r s = difference-le (a *ℤ d) (b *ℤ c) (product-le a d p s) (product-le b c q r)

pub distance_square-below : (a b : Point) → IsInRange a → IsInRange b → distance_square a b ≤ 12 * 10 ^ 12
unfolding distance_square
distance_square-below a b p q =
    omega (
      arith,
      square-le (a.x -ℤ b.x) 1999998 (gap a.x b.x p.x q.x),
      square-le (a.y -ℤ b.y) 1999998 (gap a.y b.y p.y q.y),
      square-le (a.z -ℤ b.z) 1999998 (gap a.z b.z p.z q.z),
    )

-- one part of the cross product of two sides
part-le : (a a' b b' c c' : ℤ) → unsigned_abs a ≤ 999999 → unsigned_abs a' ≤ 999999 → unsigned_abs b ≤ 999999
    → unsigned_abs b' ≤ 999999 → unsigned_abs c ≤ 999999 → unsigned_abs c' ≤ 999999
    → square (cross_product (b -ℤ a) (b' -ℤ a') (c -ℤ a) (c' -ℤ a')) ≤ 64 * 10 ^ 24
part-le a a' b b' c c' h h' k k' l l' =
    square-le (cross_product (b -ℤ a) (b' -ℤ a') (c -ℤ a) (c' -ℤ a')) 8000000000000
    (cross-le (b -ℤ a) (b' -ℤ a') (c -ℤ a) (c' -ℤ a') (gap b a k h) (gap b' a' k' h') (gap c a l h)
    (gap c' a' l' h'))

pub area_square-below : (a b c : Point) → IsInRange a → IsInRange b → IsInRange c → area_square a b c ≤ 192 * 10 ^ 24
unfolding area_square
area_square-below a b c p q r =
    omega (
      arith,
      part-le a.y a.z b.y b.z c.y c.z p.y p.z q.y q.z r.y r.z,
      part-le a.z a.x b.z b.x c.z c.x p.z p.x q.z q.x r.z r.x,
      part-le a.x a.y b.x b.y c.x c.y p.x p.y q.x q.y r.x r.y,
    )

-- the bound on a weighted sum of a squared span and an area within their bounds
rule_cost-below : (rule : CostRule) (span area : ℕ) → IsWeighted rule → span ≤ 12 * 10 ^ 12 → area ≤ 192 * 10 ^ 24
    → rule_cost rule span area < step_cost_limit
rule_cost-below Span span area w h k = omega (arith, h)
rule_cost-below Area span area w h k = omega (arith, k)
rule_cost-below (Mix a b) span area w h k = omega (arith, mul-le-mul w.0 h, mul-le-mul w.1 k)

-- every step under a rule costs at most what bounds the rule
step_cost-le : (rule : CostRule) (b : ℕ)
    → ((span area : ℕ) → span ≤ 12 * 10 ^ 12 → area ≤ 192 * 10 ^ 24 → rule_cost rule span area ≤ b)
    → (low high : List Point) → IsRing low → IsRing high → (i j : ℕ) (t : Step) → step_cost rule low high i j t ≤ b
step_cost-le rule b h low high p q i j V =
    let from = around-in_range low i p in
    let to = around-in_range low (i + 1) p in
    let across = around-in_range high j q in
    h _ _ (distance_square-below _ _ to across) (area_square-below _ _ _ from to across)
step_cost-le rule b h low high p q i j H =
    let from = around-in_range high j q in
    let to = around-in_range high (j + 1) q in
    let across = around-in_range low i p in
    h _ _ (distance_square-below _ _ across to) (area_square-below _ _ _ to from across)

-- every step of a strip costs less than the limit
pub arcs-below : (s : Strip) → IsStrip s → (i j : ℕ) (t : Step) → arcs s i j t < step_cost_limit
unfolding arcs
arcs-below s p i j t =
    omega (
      arith,
      step_cost-le s.cost (2 * 10 ^ 29 - 1)
          (λ span area h k. omega (arith, rule_cost-below s.cost span area p.cost h k)) s.low s.high p.low p.high i j t,
    )

-- a step of a strip costs at most its limit
pub arcs-le : (s : Strip) → IsStrip s → (i j : ℕ) (t : Step) → arcs s i j t ≤ step_cost_limit
arcs-le s p i j t = omega (arith, arcs-below s p i j t)

-- a step costs at most this under the rule of spans, and this under the rule of areas
pub spans-below : (s : Strip) → IsStrip s → s.cost ≡ Span → (i j : ℕ) (t : Step) → arcs s i j t ≤ 12 * 10 ^ 12
unfolding arcs
spans-below s p e i j t =
    step_cost-le s.cost (12 * 10 ^ 12)
    (λ span area h k. subst (λ (r : CostRule). rule_cost r span area ≤ 12 * 10 ^ 12) (sym e) h) s.low s.high p.low
    p.high i j t

pub areas-below : (s : Strip) → IsStrip s → s.cost ≡ Area → (i j : ℕ) (t : Step) → arcs s i j t ≤ 192 * 10 ^ 24
unfolding arcs
areas-below s p e i j t =
    step_cost-le s.cost (192 * 10 ^ 24)
    (λ span area h k. subst (λ (r : CostRule). rule_cost r span area ≤ 192 * 10 ^ 24) (sym e) k) s.low s.high p.low
    p.high i j t

-- a word costs at most its length times the bound on a step
pub word_cost-le : (a : Arcs) (b : ℕ) → ((i j : ℕ) (s : Step) → a i j s ≤ b) → (i j : ℕ) (w : List Step)
    → word_cost a i j w ≤ (count_v w + count_h w) * b
word_cost-le a b h i j [] = omega arith
word_cost-le a b h i j (V ∷ w) = omega (arith, h i j V, word_cost-le a b h (i + 1) j w)
word_cost-le a b h i j (H ∷ w) = omega (arith, h i j H, word_cost-le a b h i (j + 1) w)

-- an acceptable tiling has at most MAX_STEPS letters
pub tiling_cost-below : (s : Strip) (i j : ℕ) (w : List Step) → IsStrip s → IsAcceptable (rows s) (cols s) i j w
    → word_cost (arcs s) i j w ≤ MAX_STEPS * step_cost_limit
tiling_cost-below s i j w p k =
    let few : count_v w + count_h w ≤ MAX_STEPS = omega (arith, k.letters.v, k.letters.h, p.low.few, p.high.few) in
    omega (arith, few, word_cost-le (arcs s) step_cost_limit (arcs-le s p) i j w)

pub distance-below : (a : Arcs) (b : ℕ) → ((i j : ℕ) (s : Step) → a i j s ≤ b) → (i j r c : ℕ)
    → distance a i j r c ≤ (r + c) * b
distance-below a b h i j r c =
    let k = distance-reached a i j r c in
    let e : count_v k.word + count_h k.word ≡ r + c = omega (arith, k.letters.v, k.letters.h) in
    omega (arith, k.cost, word_cost-le a b h i j k.word, ap (λ (x : ℕ). x * b) e)
