-- If no pair of triangles is counted, no edge passes through another triangle.
use Rattle.std.proofs.Common.{◌≡◌, ◌⊎◌, inl, inr, ℕ, zero, suc, ◌+◌, ◌<◌, ◌≤◌, ◌≢◌, Bool, true, false, ◌||◌, List, [], ◌∷◌, length, get_or, refl, ap, ◌∙◌, arith, true≢false}
use Rattle.std.specs.Prelude.{cond, count_by}
use Rattle.std.proofs.lemmas.List.Sums.{sum_by-cons}
use Rattle.std.proofs.lemmas.Bool.{cases_lt}
use Rattle.mesh_measures.specs.declared.crossing.Corners.{Corners}
use Rattle.mesh_measures.specs.Crossings.{cross, crossing_pairs, pierces}

-- if the disjunction of two tests is false, both are
neither : (a b : Bool) → (a || b) ≡ false → (a ≡ false) × (b ≡ false)
neither true b e = absurd (true≢false e)
neither false true e = absurd (true≢false e)
neither false false e = (refl, refl)

-- one more triangle
counted : (s t : Corners) (more : List Corners)
    → count_by (cross s) (t ∷ more) ≡ cond (cross s t) 1 0 + count_by (cross s) more
counted s t more = sum_by-cons (λ (x : Corners). cond (cross s x) 1 0) t more

-- a triangle that crosses 0 of some triangles crosses none of them
none_later : (s : Corners) (more : List Corners) (k : ℕ) (d : Corners) → count_by (cross s) more ≡ 0 → k < length more
    → cross s (get_or more k d) ≡ false
none_later s [] k d e l = absurd (omega (arith, l))
none_later s (t ∷ more) zero d e l = by_test (cross s t) refl
  where
    by_test : (b : Bool) → cross s t ≡ b → cross s t ≡ false
    by_test false is = is
    by_test true is = (let here : count_by (cross s) (t ∷ more) ≡ 1 + count_by (cross s) more = counted s t more
        ∙ ap (λ (b : Bool). cond b 1 0 + count_by (cross s) more) is in absurd (omega (arith, e, here)))
none_later s (t ∷ more) (suc k) d e l = none_later s more k d (omega (arith, e, counted s t more)) (omega (arith, l))

none_cross : (part : List Corners) (i j : ℕ) (d : Corners) → crossing_pairs part ≡ 0 → i < j → j < length part
    → cross (get_or part i d) (get_or part j d) ≡ false
none_cross [] i j d e l m = absurd (omega (arith, m))
none_cross (s ∷ more) i zero d e l m = absurd (omega (arith, l))
none_cross (s ∷ more) zero (suc j) d e l m = none_later s more j d (omega (arith, e)) (omega (arith, m))
none_cross (s ∷ more) (suc i) (suc j) d e l m =
    none_cross more i j d (omega (arith, e)) (omega (arith, l)) (omega (arith, m))

-- if two triangles do not cross, neither has an edge through the other
none_pierced : (s t : Corners) → cross s t ≡ false → (pierces s t ≡ false) × (pierces t s ≡ false)
unfolding cross
none_pierced s t e = neither (pierces s t) (pierces t s) e

pub no_edge_passes : (part : List Corners) (i j : ℕ) (d : Corners) → crossing_pairs part ≡ 0 → i < length part
    → j < length part → i ≢ j → pierces (get_or part i d) (get_or part j d) ≡ false
no_edge_passes part i j d e l m other = by_order (cases_lt i j)
  where
    by_order : (i < j) ⊎ (j ≤ i) → pierces (get_or part i d) (get_or part j d) ≡ false
    by_order (inl before) = (none_pierced (get_or part i d) (get_or part j d) (none_cross part i j d e before m)).0
    by_order (inr later) = (let before : j < i = omega arith in
        (none_pierced (get_or part j d) (get_or part i d) (none_cross part j i d e before l)).1)
