-- Costs in a region to a place, by the steps that lead there.
use Rattle.std.proofs.Common.{◌≡◌, ℕ, zero, suc, ◌+◌, ◌<◌, ◌≤◌, min, List, [], ◌∷◌, ◌++◌, refl, ap, subst, subst₂, arith, ◌⊎◌, inl, inr}
use Rattle.strip_graph.specs.declared.tilings.Step.{Step}
use Rattle.strip_graph.specs.declared.tilings.Step.TheVariants.{V, H}
use Rattle.strip_graph.specs.Words.{Arcs, count_v, count_h, HasLetters, word_cost}
use Rattle.strip_graph.specs.Regions.{IsInside, IsWithin, IsRegional}
use Rattle.strip_graph.proofs.WordLaws.{count_v-append, count_h-append}
use Rattle.strip_graph.proofs.LastSteps.{last_of, distance-le_last_v, distance-le_last_h, cost_more, letters_more_v, letters_more_h}
use Rattle.strip_graph.proofs.Regional.{within_start}

-- the parts of a word in a region
pub within_front : (lo hi : ℕ → ℕ) (i j : ℕ) (u w : List Step) → IsWithin lo hi i j (u ++ w) → IsWithin lo hi i j u
within_front lo hi i j [] w k = within_start lo hi i j w k
within_front lo hi i j (V ∷ u) w k = (k.0, within_front lo hi (i + 1) j u w k.1)
within_front lo hi i j (H ∷ u) w k = (k.0, within_front lo hi i (j + 1) u w k.1)

within_at : (lo hi : ℕ → ℕ) (i i' j j' : ℕ) (w : List Step) → i ≡ i' → j ≡ j' → IsWithin lo hi i j w
    → IsWithin lo hi i' j' w
within_at lo hi i i' j j' w e f = subst₂ (λ (x y : ℕ). IsWithin lo hi x y w) e f

pub within_back : (lo hi : ℕ → ℕ) (i j : ℕ) (u w : List Step) → IsWithin lo hi i j (u ++ w)
    → IsWithin lo hi (i + count_v u) (j + count_h u) w
within_back lo hi i j [] w k = within_at lo hi i (i + 0) j (j + 0) w (omega arith) (omega arith) k
within_back lo hi i j (V ∷ u) w k =
    within_at lo hi (i + 1 + count_v u) (i + (1 + count_v u)) (j + count_h u) (j + count_h u) w (omega arith) refl
    (within_back lo hi (i + 1) j u w k.1)
within_back lo hi i j (H ∷ u) w k =
    within_at lo hi (i + count_v u) (i + count_v u) (j + 1 + count_h u) (j + (1 + count_h u)) w refl (omega arith)
    (within_back lo hi i (j + 1) u w k.1)

-- where the word ends
pub within_end : (lo hi : ℕ → ℕ) (i j : ℕ) (u : List Step) → IsWithin lo hi i j u
    → IsInside lo hi (i + count_v u) (j + count_h u)
within_end lo hi i j [] k = within_start lo hi (i + 0) (j + 0) []
    (within_at lo hi i (i + 0) j (j + 0) [] (omega arith) (omega arith) k)
within_end lo hi i j (V ∷ u) k =
    let e : i + 1 + count_v u ≡ i + (1 + count_v u) = omega arith in
    subst (λ (x : ℕ). IsInside lo hi x (j + count_h u)) e (within_end lo hi (i + 1) j u k.1)
within_end lo hi i j (H ∷ u) k =
    let e : j + 1 + count_h u ≡ j + (1 + count_h u) = omega arith in
    subst (λ (x : ℕ). IsInside lo hi (i + count_v u) x) e (within_end lo hi i (j + 1) u k.1)

inside_end : (lo hi : ℕ → ℕ) (i j r c : ℕ) (u w : List Step) → HasLetters r c u → IsWithin lo hi i j (u ++ w)
    → IsInside lo hi (i + r) (j + c)
inside_end lo hi i j r c u w l k =
    subst₂ (λ (x y : ℕ). IsInside lo hi (i + x) (j + y)) l.v l.h (within_end lo hi i j u (within_front lo hi i j u w k))

-- where only V leads there
pub regional_last_v : (a : Arcs) (lo hi : ℕ → ℕ) (i j r c x : ℕ) → IsRegional a lo hi i j r c x → (c ≡ 0)
    ⊎ (j + c ≤ lo (i + (r + 1))) → IsRegional a lo hi i j (r + 1) c (x + a (i + r) (j + c) V)
regional_last_v a lo hi i j r c x p shut =
    record { least = omega (arith, distance-le_last_v a i j r c, p.least); within = bound }
  where
    last : (c : ℕ) → (c ≡ 0) ⊎ (j + c ≤ lo (i + (r + 1))) → (u : List Step) → HasLetters (r + 1) c (u ++ H ∷ [])
        → IsWithin lo hi i j (u ++ H ∷ []) → ⊥
    last zero s u l k = omega (arith, l.h, count_h-append u (H ∷ []))
    last (suc c) (inl e) u l k = omega (arith, e)
    last (suc c) (inr out) u l k =
        let d : suc c ≡ c + 1 = omega arith in
        let l' : HasLetters (r + 1) (c + 1) (u ++ H ∷ []) = subst (λ (y : ℕ). HasLetters (r + 1) y (u ++ H ∷ [])) d l in
        omega (arith, out, (inside_end lo hi i j (r + 1) c u (H ∷ []) ((letters_more_h (r + 1) c u).0 l') k).from)

    by : (u : List Step) (s : Step) → HasLetters (r + 1) c (u ++ s ∷ []) → IsWithin lo hi i j (u ++ s ∷ [])
        → x + a (i + r) (j + c) V ≤ word_cost a i j (u ++ s ∷ [])
    by u V l k =
        let l' = (letters_more_v r c u).0 l in
        omega (arith, cost_more a i j r c u V l', p.within u l' (within_front lo hi i j u (V ∷ []) k))
    by u H l k = absurd (last c shut u l k)

    bound : (w : List Step) → HasLetters (r + 1) c w → IsWithin lo hi i j w
        → x + a (i + r) (j + c) V ≤ word_cost a i j w
    bound [] l k = absurd (omega (arith, l.v))
    bound (s ∷ w) l k =
        let t = last_of s w in
        omega (
          arith,
          by t.front t.letter (subst (HasLetters (r + 1) c) t.joins l)
              (subst (IsWithin lo hi i j) t.joins k),
          ap (word_cost a i j) t.joins,
        )

-- where only H leads there
pub regional_last_h : (a : Arcs) (lo hi : ℕ → ℕ) (i j r c x : ℕ) → IsRegional a lo hi i j r c x
    → ((k : ℕ) → r ≡ k + 1 → hi (i + k) < j + (c + 1)) → IsRegional a lo hi i j r (c + 1) (x + a (i + r) (j + c) H)
regional_last_h a lo hi i j r c x p shut =
    record { least = omega (arith, distance-le_last_h a i j r c, p.least); within = bound }
  where
    last : (r : ℕ) → ((k : ℕ) → r ≡ k + 1 → hi (i + k) < j + (c + 1)) → (u : List Step)
        → HasLetters r (c + 1) (u ++ V ∷ []) → IsWithin lo hi i j (u ++ V ∷ []) → ⊥
    last zero s u l k = omega (arith, l.v, count_v-append u (V ∷ []))
    last (suc r) s u l k =
        let d : suc r ≡ r + 1 = omega arith in
        let l' : HasLetters (r + 1) (c + 1) (u ++ V ∷ []) = subst (λ (y : ℕ). HasLetters y (c + 1) (u ++ V ∷ [])) d l in
        omega (arith, s r d, (inside_end lo hi i j r (c + 1) u (V ∷ []) ((letters_more_v r (c + 1) u).0 l') k).to)

    by : (u : List Step) (s : Step) → HasLetters r (c + 1) (u ++ s ∷ []) → IsWithin lo hi i j (u ++ s ∷ [])
        → x + a (i + r) (j + c) H ≤ word_cost a i j (u ++ s ∷ [])
    by u H l k =
        let l' = (letters_more_h r c u).0 l in
        omega (arith, cost_more a i j r c u H l', p.within u l' (within_front lo hi i j u (H ∷ []) k))
    by u V l k = absurd (last r shut u l k)

    bound : (w : List Step) → HasLetters r (c + 1) w → IsWithin lo hi i j w
        → x + a (i + r) (j + c) H ≤ word_cost a i j w
    bound [] l k = absurd (omega (arith, l.h))
    bound (s ∷ w) l k =
        let t = last_of s w in
        omega (
          arith,
          by t.front t.letter (subst (HasLetters r (c + 1)) t.joins l)
              (subst (IsWithin lo hi i j) t.joins k),
          ap (word_cost a i j) t.joins,
        )

-- where both lead there
pub regional_last_both : (a : Arcs) (lo hi : ℕ → ℕ) (i j r c x y : ℕ) → IsRegional a lo hi i j r (c + 1) x
    → IsRegional a lo hi i j (r + 1) c y
    → IsRegional a lo hi i j (r + 1) (c + 1) (min (x + a (i + r) (j + (c + 1)) V) (y + a (i + (r + 1)) (j + c) H))
regional_last_both a lo hi i j r c x y p q = record {
  least = omega (arith, distance-le_last_v a i j r (c + 1), distance-le_last_h a i j (r + 1) c, p.least, q.least);
  within = bound;
}
  where
    by : (u : List Step) (s : Step) → HasLetters (r + 1) (c + 1) (u ++ s ∷ []) → IsWithin lo hi i j (u ++ s ∷ [])
        → min (x + a (i + r) (j + (c + 1)) V) (y + a (i + (r + 1)) (j + c) H) ≤ word_cost a i j (u ++ s ∷ [])
    by u V l k =
        let l' = (letters_more_v r (c + 1) u).0 l in
        omega (arith, cost_more a i j r (c + 1) u V l', p.within u l' (within_front lo hi i j u (V ∷ []) k))
    by u H l k =
        let l' = (letters_more_h (r + 1) c u).0 l in
        omega (arith, cost_more a i j (r + 1) c u H l', q.within u l' (within_front lo hi i j u (H ∷ []) k))

    bound : (w : List Step) → HasLetters (r + 1) (c + 1) w → IsWithin lo hi i j w
        → min (x + a (i + r) (j + (c + 1)) V) (y + a (i + (r + 1)) (j + c) H) ≤ word_cost a i j w
    bound [] l k = absurd (omega (arith, l.v))
    bound (s ∷ w) l k =
        let t = last_of s w in
        omega (
          arith,
          by t.front t.letter (subst (HasLetters (r + 1) (c + 1)) t.joins l)
              (subst (IsWithin lo hi i j) t.joins k),
          ap (word_cost a i j) t.joins,
        )
