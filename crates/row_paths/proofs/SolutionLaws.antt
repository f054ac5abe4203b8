-- What a solution shows of every tiling, and that a strip has only one.
use Rattle.std.proofs.Common.{◌≡◌, ℕ, ◌*◌, ◌^◌, ◌<◌, ◌≤◌, ℤ, pos, ◌≤ℤ◌, unsigned_abs, List, ap, ap₂, sym, ◌∙◌, subst, arith}
use Rattle.std.proofs.lemmas.Int.{ints}
use Rattle.fku_types.specs.declared.limits.TheConstants.{MAX_STEPS}
use Rattle.strip_graph.specs.declared.tilings.Step.{Step}
use Rattle.strip_graph.specs.Words.{word_cost}
use Rattle.strip_graph.specs.Strips.{Strip, IsStrip, arcs, rows, cols, step_cost_limit}
use Rattle.strip_graph.specs.Tilings.{IsAcceptable, IsChosen}
use Rattle.strip_graph.proofs.Bounds.{tiling_cost-below}
use Rattle.strip_graph.proofs.Chosen.{chosen_unique}
use Rattle.row_paths.specs.Solutions.{Solution, Solves}

-- a solution from its three parts
pub solves_from : (p : Strip) (s : Solution) (row : ℕ) (w : List Step) (cost : ℕ) → s.row ≡ row → s.word ≡ w
    → s.cost ≡ pos cost → IsChosen (arcs p) (rows p) (cols p) row w → cost ≡ word_cost (arcs p) row 0 w → Solves p s
solves_from p s row w cost e f g chosen is = record {
  chosen = subst (λ (k : ℕ). IsChosen (arcs p) (rows p) (cols p) k s.word) (sym e)
      (subst (λ (u : List Step). IsChosen (arcs p) (rows p) (cols p) row u) (sym f) chosen);
  cost = g ∙ ap pos (is ∙ ap₂ (λ (k : ℕ) (u : List Step). word_cost (arcs p) k 0 u) (sym e) (sym f));
}

-- no acceptable tiling, from any start, costs less than a solution
pub solves_least : (p : Strip) (s : Solution) → Solves p s → (i j : ℕ) (w : List Step)
    → IsAcceptable (rows p) (cols p) i j w → s.cost ≤ℤ pos (word_cost (arcs p) i j w)
solves_least p s k i j w t = omega (arith, ints, k.cost, k.chosen.least.least i j w t)

pub cost_limited : (p : Strip) (s : Solution) → IsStrip p → Solves p s
    → unsigned_abs s.cost ≤ MAX_STEPS * step_cost_limit
cost_limited p s strip k = omega (
  arith,
  ints,
  k.cost,
  tiling_cost-below p s.row 0 s.word strip k.chosen.least.acceptable,
)

pub cost_below : (p : Strip) (s : Solution) → IsStrip p → Solves p s → unsigned_abs s.cost < 10 ^ 34
cost_below p s strip k = omega (arith, cost_limited p s strip k)

-- two solutions of one strip are equal
pub solves_unique : (p : Strip) (s t : Solution) → Solves p s → Solves p t → s ≡ t
solves_unique p s t k l =
    let same = chosen_unique (arcs p) (rows p) (cols p) s.row t.row s.word t.word k.chosen l.chosen in
    let cost : s.cost ≡ t.cost = k.cost ∙ ap₂ (λ (i : ℕ) (u : List Step). pos (word_cost (arcs p) i 0 u)) same.0 same.1
    ∙ sym l.cost in
    parts s.row t.row s.word t.word s.cost t.cost same.0 same.1 cost
  where
    made : ℕ → List Step → ℤ → Solution
    made i u c = record { row = i; word = u; cost = c }

    parts : (i j : ℕ) (u w : List Step) (c d : ℤ) → i ≡ j → u ≡ w → c ≡ d → made i u c ≡ made j w d
    parts i j u w c d e f g = ap₂ (λ (k : ℕ) (v : List Step). made k v c) e f ∙ ap (made j w) g
