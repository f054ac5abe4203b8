-- From the costs of the turns and a first least word to the chosen tiling.
use Rattle.std.proofs.Common.{◌^◌, ◌≡◌, ℕ, ◌-◌, ◌*◌, ◌/◌, ◌<◌, ◌≤◌, List, length, get_or, ap, ap₂, ◌∙◌, subst, arith}
use Rattle.plane_geom.specs.Rings.{IsRing}
use Rattle.strip_graph.specs.declared.tilings.Step.{Step}
use Rattle.strip_graph.specs.Words.{Arcs, word_cost}
use Rattle.strip_graph.specs.Strips.{Strip, IsStrip, arcs, rows, cols}
use Rattle.strip_graph.specs.Tilings.{IsChosen}
use Rattle.strip_graph.specs.Distances.{distance, IsFirst}
use Rattle.strip_graph.proofs.LeastWords.{chosen}
use Rattle.strip_graph.proofs.Around.{arcs-periodic}
use Rattle.row_paths.proofs.OffsetLaws.{cost_small}
use Rattle.row_paths.specs.Turns.{start_of, end_of, cost_of, AreCosts, IsFirstLeast}

-- the turn from row k to the same row
pub cost_of_turn : (a : Arcs) (m n k : ℕ) → cost_of a m n (2 * k) ≡ distance a k 0 m n
cost_of_turn a m n k =
    let e : 2 * k / 2 ≡ k = omega arith in
    let f : end_of m (2 * k) - start_of (2 * k) ≡ m = omega arith in
    ap₂ (λ (x y : ℕ). distance a x 0 y n) e f

pub turn_read : (a : Arcs) (m n k : ℕ) (costs : List ℕ) → AreCosts a m n (2 * m - 1) costs → k < m
    → get_or costs (2 * k) 0 ≡ distance a k 0 m n
turn_read a m n k costs c lt = c.are (2 * k) (omega arith) ∙ cost_of_turn a m n k

-- the first least of these costs, and the first least word of its turn, are the chosen tiling
pub solved : (s : Strip) (costs costs' rounds rounds' : List ℕ) (best : ℕ) (w : List Step) → IsRing s.high
    → costs' ≡ costs → rounds' ≡ rounds → AreCosts (arcs s) (rows s) (cols s) (2 * rows s - 1) costs
    → length rounds ≡ rows s
    → ((k : ℕ) → k < rows s → get_or rounds k 0 ≡ get_or costs' (2 * k) 0) → IsFirstLeast rounds' best
    → IsFirst (arcs s) best 0 (rows s) (cols s) w
    → IsChosen (arcs s) (rows s) (cols s) best w × (get_or rounds best 0 ≡ word_cost (arcs s) best 0 w)
solved s costs costs' rounds rounds' best w ring same same' are count from least' f = (
  chosen (arcs s) (rows s) (cols s) best w (arcs-periodic s) (omega (arith, ring.enough)) below
      (λ k lt. omega (arith, read best below, read k lt, least.least k (omega (arith, count, lt))))
      (λ k lt. omega (arith, read best below, read k (omega (arith, lt, below)), least.first k lt))
      f,
  omega (arith, read best below, f.least),
)
  where
    least : IsFirstLeast rounds best
    least = subst (λ (l : List ℕ). IsFirstLeast l best) same' least'

    below : best < rows s
    below = omega (arith, least.within, count)

    read : (k : ℕ) → k < rows s → get_or rounds k 0 ≡ distance (arcs s) k 0 (rows s) (cols s)
    read k lt = from k lt ∙ ap (λ (l : List ℕ). get_or l (2 * k) 0) same
        ∙ turn_read (arcs s) (rows s) (cols s) k costs are lt

-- its cost is not large
pub round_fits : (s : Strip) (costs costs' rounds : List ℕ) (k : ℕ) → IsStrip s → costs' ≡ costs
    → AreCosts (arcs s) (rows s) (cols s) (2 * rows s - 1) costs
    → ((k : ℕ) → k < rows s → get_or rounds k 0 ≡ get_or costs' (2 * k) 0) → k < rows s → get_or rounds k 0 ≤ 2 ^ 120
round_fits s costs costs' rounds k p same are from lt =
    omega (
      arith,
      from k lt,
      ap (λ (l : List ℕ). get_or l (2 * k) 0) same,
      are.are (2 * k) (omega (arith, lt)),
      cost_small s (2 * k) p,
    )
