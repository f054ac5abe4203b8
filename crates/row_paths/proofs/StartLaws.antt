-- The costs from the first places of a region's rows.
use Rattle.std.proofs.Common.{◌≡◌, ◌≢◌, ℕ, ◌+◌, ◌-◌, ◌<◌, ◌≤◌, List, length, get_or, set, get_or-set_other, get_or-set_same, ap, sym, subst, arith, ◌⊎◌, inl, inr}
use Rattle.std.proofs.lemmas.Bool.{cases_lt}
use Rattle.strip_graph.specs.Words.{Arcs}
use Rattle.strip_graph.specs.Regions.{IsRegional}
use Rattle.row_paths.specs.Searches.{HasCosts}
use Rattle.row_paths.specs.Fans.{HasStarts}

pub starts_first : (b : ℕ) (a : Arcs) (lo hi : ℕ → ℕ) (end n x : ℕ) (sums starts : List ℕ) (v : ℕ) → v ≡ get_or sums 0 0
    → x ≡ end → end < length starts → HasCosts b a lo hi end n x sums (lo x)
    → HasStarts a lo hi end n x (set starts end v)
starts_first b a lo hi end n x sums starts v v-is e lt f y from to is =
    let d : y ≡ end = omega arith in
    let d' : end ≡ x = omega (arith, e) in
    rw (d, get_or-set_same, v-is) (subst (λ (z : ℕ). IsRegional a lo hi z 0 (end - z) (n - 0) (get_or sums 0 0))
    (sym d') (f 0 (omega (arith, is, ap lo d, ap lo d')) (omega arith)).regional)

pub starts_more : (b : ℕ) (a : Arcs) (lo hi : ℕ → ℕ) (end n x z : ℕ) (sums starts : List ℕ) (v : ℕ)
    → v ≡ get_or sums 0 0 → z ≡ x + 1 → x < length starts → HasCosts b a lo hi end n x sums (lo x)
    → HasStarts a lo hi end n z starts → HasStarts a lo hi end n x (set starts x v)
starts_more b a lo hi end n x z sums starts v v-is e lt f g y from to is = by (cases_lt x y)
  where
    by : (x < y) ⊎ (y ≤ x) → IsRegional a lo hi y 0 (end - y) (n - 0) (get_or (set starts x v) y 0)
    by (inl more) = let ne : y ≢ x = omega arith in rw get_or-set_other (g y (omega (arith, e)) to is)
    by (inr same) =
        let d : y ≡ x = omega arith in
        rw (d, get_or-set_same, v-is) (f 0 (omega (arith, is, ap lo d)) (omega arith)).regional
