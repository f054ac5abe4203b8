-- Canonical words, the first least words: each exists, its parts are canonical, and those with ordered ends lie side by
-- side.
use Rattle.std.proofs.Common.{◌≡◌, ℕ, zero, suc, ◌+◌, ◌<◌, List, [], ◌∷◌, ◌++◌, length, refl, ap, ap₂, ◌∙◌, arith, inl, inr}
use Rattle.std.proofs.lemmas.Bool.{cases_lt}
use Rattle.strip_graph.specs.declared.tilings.Step.{Step}
use Rattle.strip_graph.specs.declared.tilings.Step.TheVariants.{V, H}
use Rattle.strip_graph.specs.Words.{Arcs, word_cost, HasLetters, IsNotAfter}
use Rattle.strip_graph.specs.Distances.{distance, IsFirst}
use Rattle.strip_graph.specs.Paths.{Canonical, IsFirstInParts}
use Rattle.strip_graph.proofs.WordLaws.{count_v-append, count_h-append, word_cost-append, length-letters}
use Rattle.strip_graph.proofs.LeastWords.{distance-le, distance-reached, distance-le_v, distance-le_h, distance-v, first_none, first_v, first_h, first_h_last}

-- V where it leads on at least cost, else H
canonical_both : (a : Arcs) (i j r c : ℕ) → Canonical a (i + 1) j r (c + 1) → Canonical a i (j + 1) (r + 1) c
    → Canonical a i j (r + 1) (c + 1)
canonical_both a i j r c f g =
    elim (cases_lt (distance a i j (r + 1) (c + 1)) (a i j V + distance a (i + 1) j r (c + 1))) [
      | inl lt ↦ record { word = H ∷ g.word; first = first_h a i j r c g.word lt g.first }
      | inr ge ↦ record {
        word = V ∷ f.word;
        first =
            first_v a i j r (c + 1) f.word (omega (arith, distance-le_v a i j r (c + 1))) f.first;
      }
    ]

-- it exists for each number k of letters
canonical_of : (a : Arcs) (k i j r c : ℕ) → r + c ≡ k → Canonical a i j r c
canonical_of a k i j zero zero e = record { word = []; first = first_none a i j }
canonical_of a zero i j zero (suc c) e = absurd (omega arith)
canonical_of a (suc k) i j zero (suc c) e =
    let f = canonical_of a k i (j + 1) zero c (omega arith) in
    let d : suc c ≡ c + 1 = omega arith in
    rw d (record { word = H ∷ f.word; first = first_h_last a i j c f.word f.first })
canonical_of a zero i j (suc r) c e = absurd (omega arith)
canonical_of a (suc k) i j (suc r) zero e =
    let f = canonical_of a k (i + 1) j r zero (omega arith) in
    let d : suc r ≡ r + 1 = omega arith in
    rw d (record { word = V ∷ f.word; first = first_v a i j r zero f.word (distance-v a i j r) f.first })
canonical_of a (suc k) i j (suc r) (suc c) e =
    let f = canonical_of a k (i + 1) j r (c + 1) (omega arith) in
    let g = canonical_of a k i (j + 1) (r + 1) c (omega arith) in
    let d : suc r ≡ r + 1 = omega arith in
    let b : suc c ≡ c + 1 = omega arith in
    rw (d, b) (canonical_both a i j r c f g)

pub canonical : (a : Arcs) (i j r c : ℕ) → Canonical a i j r c
canonical a i j r c = canonical_of a (r + c) i j r c refl

-- a canonical word without its first letter is canonical, and its first letter leads on at least cost
pub tail_v : (a : Arcs) (i j r c : ℕ) (w : List Step) → IsFirst a i j (r + 1) c (V ∷ w)
    → (distance a i j (r + 1) c ≡ a i j V + distance a (i + 1) j r c) × IsFirst a (i + 1) j r c w
tail_v a i j r c w f =
    let l : HasLetters r c w = record { v = omega (arith, f.letters.v); h = f.letters.h } in
    let e : word_cost a (i + 1) j w ≡ distance a (i + 1) j r c =
    omega (arith, f.least, distance-le_v a i j r c, distance-le a (i + 1) j r c w l) in (
      omega (arith, f.least),
      record {
        letters = l;
        least = e;
        first = λ u k d. f.first (V ∷ u) (record { v = omega (arith, k.v); h = k.h }) (omega (arith, f.least, d));
      },
    )

pub tail_h : (a : Arcs) (i j r c : ℕ) (w : List Step) → IsFirst a i j r (c + 1) (H ∷ w)
    → (distance a i j r (c + 1) ≡ a i j H + distance a i (j + 1) r c) × IsFirst a i (j + 1) r c w
tail_h a i j r c w f =
    let l : HasLetters r c w = record { v = f.letters.v; h = omega (arith, f.letters.h) } in
    let e : word_cost a i (j + 1) w ≡ distance a i (j + 1) r c =
    omega (arith, f.least, distance-le_h a i j r c, distance-le a i (j + 1) r c w l) in (
      omega (arith, f.least),
      record {
        letters = l;
        least = e;
        first = λ u k d. f.first (H ∷ u) (record { v = k.v; h = omega (arith, k.h) }) (omega (arith, f.least, d));
      },
    )

-- where a canonical word begins with H, V costs more
pub h_is_cheaper : (a : Arcs) (i j r c : ℕ) (w : List Step) → IsFirst a i j (r + 1) c (H ∷ w)
    → distance a i j (r + 1) c < a i j V + distance a (i + 1) j r c
h_is_cheaper a i j r c w f =
    elim (cases_lt (distance a i j (r + 1) c) (a i j V + distance a (i + 1) j r c)) [
      | inl lt ↦ lt
      | inr ge ↦ (let k = distance-reached a (i + 1) j r c in
          absurd (f.first (V ∷ k.word) (record { v = omega (arith, k.letters.v); h = k.letters.h })
          (omega (arith, k.cost, distance-le_v a i j r c))))
    ]

-- two words are equal if neither comes after the other
pub not_after_both : (u w : List Step) → IsNotAfter u w → IsNotAfter w u → u ≡ w
not_after_both [] [] p q = refl
not_after_both [] (V ∷ w) p q = absurd q
not_after_both [] (H ∷ w) p q = absurd q
not_after_both (V ∷ u) [] p q = absurd p
not_after_both (H ∷ u) [] p q = absurd p
not_after_both (V ∷ u) (V ∷ w) p q = ap (λ (x : List Step). V ∷ x) (not_after_both u w p q)
not_after_both (V ∷ u) (H ∷ w) p q = absurd q
not_after_both (H ∷ u) (V ∷ w) p q = absurd p
not_after_both (H ∷ u) (H ∷ w) p q = ap (λ (x : List Step). H ∷ x) (not_after_both u w p q)

-- there is only one canonical word
pub only_canonical : (a : Arcs) (i j r c : ℕ) (u w : List Step) → IsFirst a i j r c u → IsFirst a i j r c w → u ≡ w
only_canonical a i j r c u w f g = not_after_both u w (f.first w g.letters g.least) (g.first u f.letters f.least)

-- words with an equal front compare as their tails, and words of one length as their fronts
not_after-tails : (u w v : List Step) → IsNotAfter (u ++ w) (u ++ v) → IsNotAfter w v
not_after-tails [] w v p = p
not_after-tails (V ∷ u) w v p = not_after-tails u w v p
not_after-tails (H ∷ u) w v p = not_after-tails u w v p

not_after-fronts : (u v w : List Step) → length u ≡ length v → IsNotAfter (u ++ w) (v ++ w) → IsNotAfter u v
not_after-fronts [] v w e p = tt
not_after-fronts (s ∷ u) [] w e p = absurd (omega (arith, e))
not_after-fronts (V ∷ u) (V ∷ v) w e p = not_after-fronts u v w (omega (arith, e)) p
not_after-fronts (V ∷ u) (H ∷ v) w e p = tt
not_after-fronts (H ∷ u) (V ∷ v) w e p = p
not_after-fronts (H ∷ u) (H ∷ v) w e p = not_after-fronts u v w (omega (arith, e)) p

-- the parts are canonical
pub parts_canonical : (a : Arcs) (i j r c r' c' : ℕ) (u w : List Step) → HasLetters r c u → HasLetters r' c' w
    → IsFirst a i j (r + r') (c + c') (u ++ w) → IsFirstInParts a i j r c r' c' u w
parts_canonical a i j r c r' c' u w k l f = record { front = front; back = back }
  where
    -- any two words with these letters
    letters : (v x : List Step) → HasLetters r c v → HasLetters r' c' x → HasLetters (r + r') (c + c') (v ++ x)
    letters v x p q = record {
      v = omega (arith, count_v-append v x, p.v, q.v);
      h =
          omega (arith, count_h-append v x, p.h, q.h);
    }

    cost : (v x : List Step) → HasLetters r c v
        → word_cost a i j (v ++ x) ≡ word_cost a i j v + word_cost a (i + r) (j + c) x
    cost v x p = word_cost-append a i j v x
        ∙ ap₂ (λ (y z : ℕ). word_cost a i j v + word_cost a (i + y) (j + z) x) p.v p.h

    -- neither part can be replaced by a word that costs less
    least_front : word_cost a i j u ≡ distance a i j r c
    least_front =
        let d = distance-reached a i j r c in
        omega (
          arith,
          d.cost,
          cost u w k,
          cost d.word w d.letters,
          f.least,
          distance-le a i j r c u k,
          distance-le a i j (r + r') (c + c') (d.word ++ w) (letters d.word w d.letters l),
        )

    least_back : word_cost a (i + r) (j + c) w ≡ distance a (i + r) (j + c) r' c'
    least_back =
        let d = distance-reached a (i + r) (j + c) r' c' in
        omega (
          arith,
          d.cost,
          cost u w k,
          cost u d.word k,
          f.least,
          distance-le a (i + r) (j + c) r' c' w l,
          distance-le a i j (r + r') (c + c') (u ++ d.word) (letters u d.word k d.letters),
        )

    front : IsFirst a i j r c u
    front = record {
      letters = k;
      least = least_front;
      first = λ v p e. not_after-fronts u v w (omega (arith, length-letters u, length-letters v, k.v, k.h, p.v, p.h))
          (f.first (v ++ w) (letters v w p l) (omega (arith, cost u w k, cost v w p, e, least_front, f.least)));
    }

    back : IsFirst a (i + r) (j + c) r' c' w
    back = record {
      letters = l;
      least = least_back;
      first = λ v p e. not_after-tails u w v
          (f.first (u ++ v) (letters u v k p) (omega (arith, cost u w k, cost u v k, e, least_back, f.least)));
    }
