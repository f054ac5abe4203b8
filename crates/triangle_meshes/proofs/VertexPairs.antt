-- The pairs of vertices below a number: each occurs among them once.
use Rattle.std.proofs.Common.{◌≡◌, ◌⊎◌, inl, inr, ℕ, ◌+◌, ◌<◌, ◌≤◌, ◌==◌, ◌&&◌, ◌||◌, Bool, true, false, zero, suc, List, [], ◌∷◌, ◌++◌, map, refl, ap, ◌∙◌, arith, eq-eqb}
use Rattle.std.specs.List.{AllByRecursion, IsDistinct, range_with_len}
use Rattle.std.specs.Set.{is_member}
use Rattle.std.proofs.lemmas.List.Folds.{list_any-append}
use Rattle.std.proofs.lemmas.Bool.{ne_eqb, and_from, cases_lt, or_left, or_right, and_right}
use Rattle.std.proofs.lemmas.Map.Keys.{IsDistinct-cons}
use Rattle.fku_types.proofs.ListLaws.{all_join, all_weaker}
use Rattle.triangle_meshes.specs.Edges.{pairs_below}
use Rattle.triangle_meshes.proofs.PairTests.{same_edge, IsPair}

-- a row of pairs differs from a pair before it
row_apart : (a b k n : ℕ) (rest : List (ℕ × ℕ)) → a < b → AllByRecursion (IsPair n) rest
    → AllByRecursion (λ e. same_edge (a, n) e ≡ false) (map (λ u. (u, n)) (range_with_len b k) ++ rest)
row_apart a b zero n [] l r = tt
row_apart a b zero n (e ∷ es) l r = (
  and_right (a == e.0) (n == e.1) (ne_eqb n e.1 (λ q. absurd (omega (arith, q, r.0.1)))),
  row_apart a b zero n es l r.1,
)
row_apart a b (suc k) n rest l r = (
  ap (λ (x : Bool). x && (n == n)) (ne_eqb a b (λ q. absurd (omega (arith, q)))),
  row_apart a (b + 1) k n rest (omega arith) r,
)

row_distinct : (a k n : ℕ) (rest : List (ℕ × ℕ)) → AllByRecursion (IsPair n) rest → IsDistinct same_edge rest
    → IsDistinct same_edge (map (λ u. (u, n)) (range_with_len a k) ++ rest)
row_distinct a zero n rest r d = d
row_distinct a (suc k) n rest r d =
    IsDistinct-cons same_edge (a, n) (map (λ u. (u, n)) (range_with_len (a + 1) k) ++ rest)
    (row_apart a (a + 1) k n rest (omega arith) r) (row_distinct (a + 1) k n rest r d)

row_are : (a k n : ℕ) → a + k ≤ n + 1 → AllByRecursion (IsPair (suc n)) (map (λ u. (u, n)) (range_with_len a k))
row_are a zero n l = tt
row_are a (suc k) n l = ((omega arith, omega arith), row_are (a + 1) k n (omega arith))

pub pairs_are : (n : ℕ) → AllByRecursion (IsPair n) (pairs_below n)
pairs_are zero = tt
pairs_are (suc n) = all_join (IsPair (suc n)) (map (λ u. (u, n)) (range_with_len 0 (n + 1))) (pairs_below n)
    (row_are 0 (n + 1) n (omega arith))
    (all_weaker (IsPair n) (IsPair (suc n)) (pairs_below n) (λ e h. (h.0, omega (arith, h.1))) (pairs_are n))

pub pairs_distinct : (n : ℕ) → IsDistinct same_edge (pairs_below n)
unfolding IsDistinct
pairs_distinct zero = tt
pairs_distinct (suc n) = row_distinct 0 (n + 1) n (pairs_below n) (pairs_are n) (pairs_distinct n)

row_has : (a k n u : ℕ) (rest : List (ℕ × ℕ)) → a ≤ u → u < a + k
    → is_member same_edge (map (λ u. (u, n)) (range_with_len a k) ++ rest) (u, n) ≡ true
row_has a zero n u rest l m = absurd (omega arith)
row_has a (suc k) n u rest l m = by_order (cases_lt a u) (λ o. row_has (a + 1) k n u rest (omega arith) (omega arith))
  where
    tail : List (ℕ × ℕ)
    tail = map (λ u. (u, n)) (range_with_len (a + 1) k) ++ rest

    by_order : (a < u) ⊎ (u ≤ a) → (a < u → is_member same_edge tail (u, n) ≡ true)
        → (same_edge (u, n) (a, n) || is_member same_edge tail (u, n)) ≡ true
    by_order (inl o) later = or_right (same_edge (u, n) (a, n)) (is_member same_edge tail (u, n)) (later o)
    by_order (inr o) later = or_left (same_edge (u, n) (a, n)) (is_member same_edge tail (u, n))
        (and_from (u == a) (n == n) (eq-eqb u a (omega arith)) (eq-eqb n n refl))

pub pairs_have : (n u v : ℕ) → u ≤ v → v < n → is_member same_edge (pairs_below n) (u, v) ≡ true
pairs_have zero u v l m = absurd (omega arith)
pairs_have (suc n) u v l m = by_order (cases_lt v n) (pairs_have n u v l)
  where
    row : List (ℕ × ℕ)
    row = map (λ u. (u, n)) (range_with_len 0 (n + 1))

    by_order : (v < n) ⊎ (n ≤ v) → (v < n → is_member same_edge (pairs_below n) (u, v) ≡ true)
        → is_member same_edge (row ++ pairs_below n) (u, v) ≡ true
    by_order (inl o) earlier = list_any-append (same_edge (u, v)) row (pairs_below n)
        ∙ or_right (is_member same_edge row (u, v)) (is_member same_edge (pairs_below n) (u, v)) (earlier o)
    by_order (inr o) earlier = (let e : v ≡ n = omega arith in
        ap (λ (w : ℕ). is_member same_edge (row ++ pairs_below n) (u, w)) e
        ∙ row_has 0 (n + 1) n u (pairs_below n) (omega arith) (omega arith))
