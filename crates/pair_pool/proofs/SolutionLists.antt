-- A list of strips has one list of solutions.
use Rattle.std.proofs.Common.{◌≡◌, ℕ, suc, ◌*◌, ◌^◌, ◌<◌, ◌≤◌, List, [], ◌∷◌, All, length, get_or, sym, ◌∙◌, arith, subst, pos, unsigned_abs}
use Rattle.std.proofs.lemmas.Int.{ints}
use Rattle.std.proofs.lemmas.List.{ext_get_or}
use Rattle.fku_types.specs.declared.limits.TheConstants.{MAX_PAIRS, MAX_STEPS}
use Rattle.fku_types.specs.declared.rules.CostRule.TheVariants.{Span}
use Rattle.plane_geom.specs.Planes.{signed_sum}
use Rattle.strip_graph.specs.Strips.{Strip, IsStrip, step_cost_limit}
use Rattle.row_paths.specs.Solutions.{Solution}
use Rattle.row_paths.proofs.SolutionLaws.{cost_limited, solves_unique}
use Rattle.pair_pool.specs.Solvers.{SolvesEach}

no_strip : Strip
no_strip = record { low = []; low_ids = []; high = []; high_ids = []; cost = Span }

no_solution : Solution
no_solution = record { row = 0; word = []; cost = pos 0 }

-- strips have only one list of solutions, since each strip has one
pub one_solutions : (strips : List Strip) (xs ys : List Solution) → SolvesEach strips xs → SolvesEach strips ys
    → xs ≡ ys
one_solutions strips xs ys a b = ext_get_or no_solution xs ys (a.count ∙ sym b.count)
    (λ k l. at k (omega (arith, l, a.count)))
  where
    at : (k : ℕ) → k < length strips → get_or xs k no_solution ≡ get_or ys k no_solution
    at k l = solves_unique (get_or strips k no_strip) (get_or xs k no_solution) (get_or ys k no_solution)
        (a.each k no_strip no_solution l) (b.each k no_strip no_solution l)

-- the same for equal strips
pub same_solutions : (ps qs : List Strip) (xs ys : List Solution) → ps ≡ qs → SolvesEach ps xs → SolvesEach qs ys
    → xs ≡ ys
same_solutions ps qs xs ys e a b =
    one_solutions ps xs ys a (subst (λ (strips : List Strip). SolvesEach strips ys) (sym e) b)

-- what solutions cost together, if each costs little
sum_below : (xs : List Solution) → ((k : ℕ) → k < length xs
    → unsigned_abs (get_or xs k no_solution).cost ≤ MAX_STEPS * step_cost_limit)
    → unsigned_abs (signed_sum (λ (x : Solution). x.cost) xs) ≤ length xs * (MAX_STEPS * step_cost_limit)
sum_below [] h = omega (arith, ints)
sum_below (x ∷ xs) h = omega (arith, ints, h 0 (omega arith), sum_below xs (λ k l. h (suc k) (omega (arith, l))))

pub few_cost_little : (strips : List Strip) (xs : List Solution) → All IsStrip strips → SolvesEach strips xs
    → length strips ≤ MAX_PAIRS → unsigned_abs (signed_sum (λ (x : Solution). x.cost) xs) < 2 ^ 127
few_cost_little strips xs are a few = omega (arith, a.count, sum_below xs (λ k l. at k (omega (arith, l, a.count))))
  where
    at : (k : ℕ) → k < length strips → unsigned_abs (get_or xs k no_solution).cost ≤ MAX_STEPS * step_cost_limit
    at k l = cost_limited (get_or strips k no_strip) (get_or xs k no_solution) (are k no_strip l)
        (a.each k no_strip no_solution l)
