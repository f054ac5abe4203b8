-- The costs of a strip repeat around its rings.
use Rattle.std.proofs.Common.{◌≡◌, ℕ, ◌+◌, List, length, ap, ap₂, arith, ◌∙◌, slice_index_or, ◌%◌, sym}
use Rattle.std.proofs.Math.Nat.{add-mod_right, mod-add-mod, mod-mod}
use Rattle.fku_types.specs.declared.points.Point.{Point}
use Rattle.fku_types.specs.declared.rules.CostRule.{CostRule}
use Rattle.strip_graph.specs.declared.tilings.Step.{Step}
use Rattle.strip_graph.specs.declared.tilings.Step.TheVariants.{V, H}
use Rattle.plane_geom.specs.Rings.{around, origin}
use Rattle.strip_graph.specs.Strips.{Strip, rows, cols, arcs, step_cost, v_cost, h_cost}
use Rattle.strip_graph.proofs.WordLaws.{Periodic}

-- indices that are equal round a ring stay so when both go on by one number
pub mod_further : (x y k m : ℕ) → x % m ≡ y % m → (x + k) % m ≡ (y + k) % m
mod_further x y k m e = sym (mod-add-mod x m k) ∙ ap (λ (z : ℕ). (z + k) % m) e ∙ mod-add-mod y m k

-- an index leads to the same item as its remainder
pub around-mod : (ring : List Point) (k : ℕ) → around ring (k % length ring) ≡ around ring k
unfolding around
around-mod ring k = ap (λ (x : ℕ). slice_index_or ring x origin) (mod-mod k (length ring))

around-mod_next : (ring : List Point) (k : ℕ) → around ring (k % length ring + 1) ≡ around ring (k + 1)
unfolding around
around-mod_next ring k = ap (λ (x : ℕ). slice_index_or ring x origin) (mod-add-mod k (length ring) 1)

-- once round the ring leads to the same point
pub around-more : (ring : List Point) (k : ℕ) → around ring (k + length ring) ≡ around ring k
unfolding around
around-more ring k = ap (λ (x : ℕ). slice_index_or ring x origin) (add-mod_right k (length ring))

pub around-more_next : (ring : List Point) (k : ℕ) → around ring (k + length ring + 1) ≡ around ring (k + 1)
around-more_next ring k = let e : k + length ring + 1 ≡ k + 1 + length ring = omega arith in ap (around ring) e
    ∙ around-more ring (k + 1)

-- the same step with equal corners
step_cost-row : (rule : CostRule) (low high : List Point) (i j : ℕ) (s : Step)
    → step_cost rule low high (i + length low) j s ≡ step_cost rule low high i j s
step_cost-row rule low high i j V =
    ap₂ (λ (p q : Point). v_cost rule p q (around high j)) (around-more low i) (around-more_next low i)
step_cost-row rule low high i j H = ap (h_cost rule (around high j) (around high (j + 1))) (around-more low i)

step_cost-col : (rule : CostRule) (low high : List Point) (i j : ℕ) (s : Step)
    → step_cost rule low high i (j + length high) s ≡ step_cost rule low high i j s
step_cost-col rule low high i j V = ap (v_cost rule (around low i) (around low (i + 1))) (around-more high j)
step_cost-col rule low high i j H =
    ap₂ (λ (p q : Point). h_cost rule p q (around low i)) (around-more high j) (around-more_next high j)

pub arcs-periodic : (s : Strip) → Periodic (arcs s) (rows s) (cols s)
unfolding arcs
arcs-periodic s = record { row = step_cost-row s.cost s.low s.high; col = step_cost-col s.cost s.low s.high }

-- the same step from a place that is counted round both rings
step_cost-round : (rule : CostRule) (low high : List Point) (i j : ℕ) (s : Step)
    → step_cost rule low high (i % length low) (j % length high) s ≡ step_cost rule low high i j s
step_cost-round rule low high i j V =
    ap₂ (λ (p q : Point). v_cost rule p q (around high (j % length high))) (around-mod low i) (around-mod_next low i)
    ∙ ap (v_cost rule (around low i) (around low (i + 1))) (around-mod high j)
step_cost-round rule low high i j H =
    ap₂ (λ (p q : Point). h_cost rule p q (around low (i % length low))) (around-mod high j) (around-mod_next high j)
    ∙ ap (h_cost rule (around high j) (around high (j + 1))) (around-mod low i)

pub arcs-round : (s : Strip) (i j : ℕ) (t : Step) → arcs s (i % rows s) (j % cols s) t ≡ arcs s i j t
unfolding arcs
arcs-round s = step_cost-round s.cost s.low s.high
