-- Canonical words with ordered ends lie side by side, so that each stays between its neighbours.
use Rattle.std.proofs.Common.{◌≡◌, ℕ, zero, suc, ◌+◌, ◌<◌, ◌≤◌, List, [], ◌∷◌, ◌++◌, cond, nat_le, refl, ap, ap₂, sym, subst, subst₂, arith, inl, inr, le-leb}
use Rattle.std.proofs.lemmas.Bool.{cases_lt}
use Rattle.strip_graph.specs.declared.tilings.Step.{Step}
use Rattle.strip_graph.specs.declared.tilings.Step.TheVariants.{V, H}
use Rattle.strip_graph.specs.Words.{Arcs, count_v, count_h}
use Rattle.strip_graph.specs.Distances.{IsFirst}
use Rattle.strip_graph.proofs.LeastWords.{distance-le_h}
use Rattle.strip_graph.specs.Paths.{entry, IsBeside}
use Rattle.strip_graph.specs.Regions.{IsInside, IsWithin}
use Rattle.strip_graph.proofs.Crossing.{v_stays_least}
use Rattle.strip_graph.proofs.Canonical.{tail_v, tail_h, h_is_cheaper}

-- a test that holds, and one that does not
test_yes : (x i a b : ℕ) → x ≤ i → cond (nat_le x i) a b ≡ a
test_yes x i a b le = rw (le-leb x i le) refl

pub test_no : (x i a b : ℕ) → i < x → cond (nat_le x i) a b ≡ b
test_no x i a b lt = grind arith

-- where a word enters a row: up to its first row, and after its first letter
pub entry-start : (i j : ℕ) (w : List Step) (x : ℕ) → x ≤ i → entry i j w x ≡ j
entry-start i j [] x le = refl
entry-start i j (V ∷ w) x le = test_yes x i j (entry (i + 1) j w x) le
entry-start i j (H ∷ w) x le = test_yes x i j (entry i (j + 1) w x) le

pub entry-v : (i j : ℕ) (w : List Step) (x : ℕ) → i < x → entry i j (V ∷ w) x ≡ entry (i + 1) j w x
entry-v i j w x lt = test_no x i j (entry (i + 1) j w x) lt

pub entry-h : (i j : ℕ) (w : List Step) (x : ℕ) → i < x → entry i j (H ∷ w) x ≡ entry i (j + 1) w x
entry-h i j w x lt = test_no x i j (entry i (j + 1) w x) lt

-- it lies between the word's first and last column
pub entry-bounds : (i j : ℕ) (w : List Step) (x : ℕ) → (j ≤ entry i j w x) × (entry i j w x ≤ j + count_h w)
entry-bounds i j [] x = (omega arith, omega arith)
entry-bounds i j (V ∷ w) x =
    elim (cases_lt i x) [
      | inl lt ↦ (let r = entry-bounds (i + 1) j w x in
          (omega (arith, r.0, entry-v i j w x lt), omega (arith, r.1, entry-v i j w x lt)))
      | inr ge ↦ (omega (arith, entry-start i j (V ∷ w) x ge), omega (arith, entry-start i j (V ∷ w) x ge))
    ]
entry-bounds i j (H ∷ w) x =
    elim (cases_lt i x) [
      | inl lt ↦ (let r = entry-bounds i (j + 1) w x in
          (omega (arith, r.0, entry-h i j w x lt), omega (arith, r.1, entry-h i j w x lt)))
      | inr ge ↦ (omega (arith, entry-start i j (H ∷ w) x ge), omega (arith, entry-start i j (H ∷ w) x ge))
    ]

-- one step of the first word, of the second, and of both
beside-v : (i i' j : ℕ) (u w : List Step) → i ≤ i' → IsBeside (i + 1) i' j u w → IsBeside i i' j (V ∷ u) w
beside-v i i' j u w le b x =
    elim (cases_lt i x) [
      | inl lt ↦ omega (arith, b x, entry-v i j u x lt)
      | inr ge ↦ omega (arith, entry-start i' j w x (omega arith), (entry-bounds i j (V ∷ u) x).0)
    ]

beside-v' : (i i' j : ℕ) (u w : List Step) → IsBeside i (i' + 1) j u w → IsBeside i i' j u (V ∷ w)
beside-v' i i' j u w b x =
    elim (cases_lt i' x) [
      | inl lt ↦ omega (arith, b x, entry-v i' j w x lt)
      | inr ge ↦ omega (arith, entry-start i' j (V ∷ w) x ge, (entry-bounds i j u x).0)
    ]

beside-h : (i i' j : ℕ) (u w : List Step) → i ≤ i' → IsBeside i i' (j + 1) u w → IsBeside i i' j (H ∷ u) (H ∷ w)
beside-h i i' j u w le b x =
    elim (cases_lt i' x) [
      | inl lt ↦ omega (arith, b x, entry-h i' j w x lt, entry-h i j u x (omega arith))
      | inr ge ↦ omega (arith, entry-start i' j (H ∷ w) x ge, (entry-bounds i j (H ∷ u) x).0)
    ]

-- from one place the first word does not go on by V where the second goes on by H
v_with_h : (a : Arcs) (i j r r' c : ℕ) (u w : List Step) → r ≤ r' → IsFirst a i j r c (V ∷ u)
    → IsFirst a i j r' c (H ∷ w) → ⊥
v_with_h a i j zero r' c u w le f g = omega (arith, f.letters.v)
v_with_h a i j (suc t) r' zero u w le f g = omega (arith, g.letters.h)
v_with_h a i j (suc t) zero (suc c) u w le f g = omega arith
v_with_h a i j (suc t) (suc s) (suc c) u w le f g =
    clash t s c (omega arith) (subst₂ (λ (x y : ℕ). IsFirst a i j x y (V ∷ u)) (omega arith) (omega arith) f)
    (subst₂ (λ (x y : ℕ). IsFirst a i j x y (H ∷ w)) (omega arith) (omega arith) g)
  where
    clash : (t s c : ℕ) → t ≤ s → IsFirst a i j (t + 1) (c + 1) (V ∷ u) → IsFirst a i j (s + 1) (c + 1) (H ∷ w) → ⊥
    clash t s c le f g =
        omega (
          arith,
          (tail_v a i j t (c + 1) u f).0,
          distance-le_h a i j (t + 1) c,
          (tail_h a i j (s + 1) c w g).0,
          h_is_cheaper a i j s (c + 1) w g,
          v_stays_least a i j t s c le (omega (arith, (tail_v a i j t (c + 1) u f).0, distance-le_h a i j (t + 1) c)),
        )

-- the claim about two canonical words: the second starts and ends below the first
abbrev LieBeside : Arcs → List Step → List Step → Type 0
LieBeside a u w = (i i' j r r' c : ℕ) → IsFirst a i j r c u → IsFirst a i' j r' c w → i ≤ i' → i + r ≤ i' + r'
    → IsBeside i i' j u w

beside_h : (a : Arcs) (u : List Step) → ((w : List Step) → LieBeside a u w) → (w : List Step) → LieBeside a (H ∷ u) w
beside_h a u rest [] i i' j r r' c f g le ends = absurd (omega (arith, f.letters.h, g.letters.h))
beside_h a u rest (V ∷ w) i i' j r zero c f g le ends = absurd (omega (arith, g.letters.v))
beside_h a u rest (V ∷ w) i i' j r (suc r') c f g le ends =
    let g' = (tail_v a i' j r' c w (subst (λ (x : ℕ). IsFirst a i' j x c (V ∷ w)) (omega arith) g)).1 in
    beside-v' i i' j (H ∷ u) w (beside_h a u rest w i (i' + 1) j r r' c f g' (omega arith) (omega arith))
beside_h a u rest (H ∷ w) i i' j r r' zero f g le ends = absurd (omega (arith, g.letters.h))
beside_h a u rest (H ∷ w) i i' j r r' (suc c) f g le ends =
    let f' = (tail_h a i j r c u (subst (λ (x : ℕ). IsFirst a i j r x (H ∷ u)) (omega arith) f)).1 in
    let g' = (tail_h a i' j r' c w (subst (λ (x : ℕ). IsFirst a i' j r' x (H ∷ w)) (omega arith) g)).1 in
    beside-h i i' j u w le (rest w i i' (j + 1) r r' c f' g' le ends)

-- both start at one place, and the first goes on by V
beside_from_one : (a : Arcs) (u : List Step) → ((w : List Step) → LieBeside a u w) → (w : List Step) (i i' j r r' c : ℕ)
    → i ≡ i' → IsFirst a i j (suc r) c (V ∷ u) → IsFirst a i' j r' c w → i + suc r ≤ i' + r' → IsBeside i i' j (V ∷ u) w
beside_from_one a u rest [] i i' j r r' c e f g ends = absurd (omega (arith, g.letters.v))
beside_from_one a u rest (H ∷ w) i i' j r r' c e f g ends =
    absurd (v_with_h a i j (suc r) r' c u w (omega arith) f (subst (λ (x : ℕ). IsFirst a x j r' c (H ∷ w)) (sym e) g))
beside_from_one a u rest (V ∷ w) i i' j r zero c e f g ends = absurd (omega (arith, g.letters.v))
beside_from_one a u rest (V ∷ w) i i' j r (suc r') c e f g ends =
    let f' = (tail_v a i j r c u (subst (λ (x : ℕ). IsFirst a i j x c (V ∷ u)) (omega arith) f)).1 in
    let g' = (tail_v a i' j r' c w (subst (λ (x : ℕ). IsFirst a i' j x c (V ∷ w)) (omega arith) g)).1 in
    beside-v i i' j u (V ∷ w) (omega arith)
    (beside-v' (i + 1) i' j u w (rest w (i + 1) (i' + 1) j r r' c f' g' (omega arith) (omega arith)))

-- canonical words of which the second starts and ends below the first: it enters each row no later
pub lie_beside : (a : Arcs) (u w : List Step) → LieBeside a u w
lie_beside a [] w i i' j r r' c f g le ends = λ x. omega (arith, (entry-bounds i' j w x).1, f.letters.h, g.letters.h)
lie_beside a (H ∷ u) w i i' j r r' c f g le ends = beside_h a u (lie_beside a u) w i i' j r r' c f g le ends
lie_beside a (V ∷ u) w i i' j zero r' c f g le ends = absurd (omega (arith, f.letters.v))
lie_beside a (V ∷ u) w i i' j (suc r) r' c f g le ends =
    let f' = (tail_v a i j r c u (subst (λ (x : ℕ). IsFirst a i j x c (V ∷ u)) (omega arith) f)).1 in
    elim (cases_lt i i') [
      | inl lt ↦ beside-v i i' j u w le (lie_beside a u w (i + 1) i' j r r' c f' g (omega arith) (omega arith))
      | inr ge ↦ beside_from_one a u (lie_beside a u) w i i' j r r' c (omega arith) f g ends
    ]

-- the place where a word starts, if the word enters each row between two bounds
inside : (lo hi : ℕ → ℕ) (i j : ℕ) (w : List Step) → ((x : ℕ) → i ≤ x → lo x ≤ entry i j w x)
    → ((x : ℕ) → i ≤ x → entry i j w (x + 1) ≤ hi x) → IsInside lo hi i j
inside lo hi i j w from to = record {
  from = omega (arith, from i (omega arith), entry-start i j w i (omega arith));
  to = omega (arith, to i (omega arith), (entry-bounds i j w (i + 1)).0);
}

-- such a word stays in the region between them
pub stays_within : (lo hi : ℕ → ℕ) (i j : ℕ) (w : List Step) → ((x : ℕ) → i ≤ x → lo x ≤ entry i j w x)
    → ((x : ℕ) → i ≤ x → entry i j w (x + 1) ≤ hi x) → IsWithin lo hi i j w
stays_within lo hi i j [] from to = inside lo hi i j [] from to
stays_within lo hi i j (V ∷ w) from to = (
  inside lo hi i j (V ∷ w) from to,
  stays_within lo hi (i + 1) j w
      (λ x le. omega (arith, from x (omega arith), entry-v i j w x (omega arith)))
      (λ x le. omega (arith, to x (omega arith), entry-v i j w (x + 1) (omega arith))),
)
stays_within lo hi i j (H ∷ w) from to = (
  inside lo hi i j (H ∷ w) from to,
  stays_within lo hi i (j + 1) w
      (λ x le. elim (cases_lt i x) [
        | inl lt ↦ omega (arith, from x le, entry-h i j w x lt)
        | inr ge ↦ omega (arith, from x le, entry-start i (j + 1) w x ge, entry-start i j (H ∷ w) x ge)
      ])
      (λ x le. omega (arith, to x le, entry-h i j w (x + 1) (omega arith))),
)

-- past its end a word stays in its last column
pub entry-end : (i j : ℕ) (w : List Step) (x : ℕ) → i + count_v w < x → entry i j w x ≡ j + count_h w
entry-end i j [] x lt = omega arith
entry-end i j (V ∷ w) x lt = omega (arith, entry-v i j w x (omega arith), entry-end (i + 1) j w x (omega arith))
entry-end i j (H ∷ w) x lt = omega (arith, entry-h i j w x (omega arith), entry-end i (j + 1) w x lt)

-- it enters a later row no earlier
pub entry-mono : (i j : ℕ) (w : List Step) (x y : ℕ) → x ≤ y → entry i j w x ≤ entry i j w y
entry-mono i j [] x y le = omega arith
entry-mono i j (V ∷ w) x y le =
    elim (cases_lt i x) [
      | inl lt ↦ omega (arith, entry-v i j w x lt, entry-v i j w y (omega arith), entry-mono (i + 1) j w x y le)
      | inr ge ↦ omega (arith, entry-start i j (V ∷ w) x ge, (entry-bounds i j (V ∷ w) y).0)
    ]
entry-mono i j (H ∷ w) x y le =
    elim (cases_lt i x) [
      | inl lt ↦ omega (arith, entry-h i j w x lt, entry-h i j w y (omega arith), entry-mono i (j + 1) w x y le)
      | inr ge ↦ omega (arith, entry-start i j (H ∷ w) x ge, (entry-bounds i j (H ∷ w) y).0)
    ]

pub entry-back : (i j : ℕ) (u w : List Step) (x : ℕ) → i + count_v u < x
    → entry i j (u ++ w) x ≡ entry (i + count_v u) (j + count_h u) w x
entry-back i j [] w x lt = ap₂ (λ (y z : ℕ). entry y z w x) (omega arith) (omega arith)
entry-back i j (V ∷ u) w x lt =
    omega (
      arith,
      entry-v i j (u ++ w) x (omega arith),
      entry-back (i + 1) j u w x (omega arith),
      ap (λ (y : ℕ). entry y (j + count_h u) w x) (next i (count_v u)),
    )
  where
    next : (i k : ℕ) → i + 1 + k ≡ i + (1 + k)
    next i k = omega arith
entry-back i j (H ∷ u) w x lt =
    omega (
      arith,
      entry-h i j (u ++ w) x (omega arith),
      entry-back i (j + 1) u w x lt,
      ap (λ (y : ℕ). entry (i + count_v u) y w x) (next j (count_h u)),
    )
  where
    next : (j k : ℕ) → j + 1 + k ≡ j + (1 + k)
    next j k = omega arith

-- where the next letter V enters its row
pub entry-next : (i j : ℕ) (u w : List Step) → entry i j (u ++ V ∷ w) (i + count_v u + 1) ≡ j + count_h u
entry-next i j u w =
    let x : ℕ = i + count_v u in
    omega (
      arith,
      entry-back i j u (V ∷ w) (x + 1) (omega arith),
      entry-v x (j + count_h u) w (x + 1) (omega arith),
      entry-start (x + 1) (j + count_h u) w (x + 1) (omega arith),
    )
