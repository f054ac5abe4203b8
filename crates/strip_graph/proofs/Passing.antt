-- Places that a word passes: a canonical word is two canonical words there.
use Rattle.std.proofs.Common.{◌≡◌, ℕ, ◌+◌, ◌-◌, ◌≤◌, List, [], ◌∷◌, ◌++◌, refl, ap, ap₂, sym, subst, subst₂, arith, inl, inr}
use Rattle.std.proofs.lemmas.Bool.{cases_lt}
use Rattle.strip_graph.specs.declared.tilings.Step.{Step}
use Rattle.strip_graph.specs.declared.tilings.Step.TheVariants.{V, H}
use Rattle.strip_graph.specs.Words.{Arcs, count_v, count_h, HasLetters, word_cost}
use Rattle.strip_graph.specs.Distances.{distance, IsFirst}
use Rattle.strip_graph.specs.Paths.{entry, IsFirstInParts}
use Rattle.strip_graph.specs.Regions.{IsWithin}
use Rattle.strip_graph.proofs.WordLaws.{count_v-append, count_h-append, word_cost-append}
use Rattle.strip_graph.proofs.Canonical.{parts_canonical}
use Rattle.strip_graph.proofs.Sides.{entry-start, entry-v, entry-h}
use Rattle.strip_graph.proofs.RegionalEnds.{within_front, within_back}

-- a word from row i and column j passes row x and column c: its parts before and after that place
pub record Passes (i j x c : ℕ) (w : List Step) : Type 0 where
  pub front : List Step
  pub back : List Step
  pub joins : w ≡ front ++ back
  pub v : i + count_v front ≡ x
  pub h : j + count_h front ≡ c

here : (i j x c : ℕ) (w : List Step) → i ≡ x → j ≡ c → Passes i j x c w
here i j x c w e f = record { front = []; back = w; joins = refl; v = omega arith; h = omega arith }

down : (i j x c : ℕ) (w : List Step) → Passes (i + 1) j x c w → Passes i j x c (V ∷ w)
down i j x c w p = record {
  front = V ∷ p.front;
  back = p.back;
  joins = ap (λ (u : List Step). V ∷ u) p.joins;
  v =
      omega (arith, p.v);
  h = omega (arith, p.h);
}

right : (i j x c : ℕ) (w : List Step) → Passes i (j + 1) x c w → Passes i j x c (H ∷ w)
right i j x c w p = record {
  front = H ∷ p.front;
  back = p.back;
  joins = ap (λ (u : List Step). H ∷ u) p.joins;
  v =
      omega (arith, p.v);
  h = omega (arith, p.h);
}

-- a word passes the places from where it enters a row to where it enters the next one
pub passes : (w : List Step) (i j x c : ℕ) → i ≤ x → x ≤ i + count_v w → entry i j w x ≤ c → c ≤ entry i j w (x + 1)
    → Passes i j x c w
passes [] i j x c le end from to = here i j x c [] (omega arith) (omega arith)
passes (V ∷ w) i j x c le end from to =
    elim (cases_lt i x) [
      | inl lt ↦ down i j x c w (passes w (i + 1) j x c (omega arith) (omega arith)
          (omega (arith, from, entry-v i j w x lt)) (omega (arith, to, entry-v i j w (x + 1) (omega arith))))
      | inr ge ↦ here i j x c (V ∷ w) (omega arith)
          (omega (
            arith,
            from,
            to,
            entry-start i j (V ∷ w) x ge,
            entry-v i j w (x + 1) (omega arith),
            entry-start (i + 1) j w (x + 1) (omega arith),
          ))
    ]
passes (H ∷ w) i j x c le end from to =
    elim (cases_lt i x) [
      | inl lt ↦ right i j x c w (passes w i (j + 1) x c le end (omega (arith, from, entry-h i j w x lt))
          (omega (arith, to, entry-h i j w (x + 1) (omega arith))))
      | inr ge ↦ elim (cases_lt j c) [
        | inl lt ↦ right i j x c w (passes w i (j + 1) x c le end (omega (arith, lt, entry-start i (j + 1) w x ge))
            (omega (arith, to, entry-h i j w (x + 1) (omega arith))))
        | inr ge' ↦ here i j x c (H ∷ w) (omega arith) (omega (arith, from, entry-start i j (H ∷ w) x ge, ge'))
      ]
    ]

-- a canonical word is two words at row x and column c, and both stay in its region
pub record IsThrough (a : Arcs) (lo hi : ℕ → ℕ) (s e n x c : ℕ) : Type 0 where
  pub front : List Step
  pub back : List Step
  pub first_front : IsFirst a s 0 (x - s) c front
  pub first_back : IsFirst a x c (e - x) (n - c) back
  pub within_front : IsWithin lo hi s 0 front
  pub within_back : IsWithin lo hi x c back
  pub cost : distance a s 0 (e - s) n ≡ distance a s 0 (x - s) c + distance a x c (e - x) (n - c)
  pub col : c ≤ n

pub through : (a : Arcs) (lo hi : ℕ → ℕ) (s e n x c : ℕ) (w : List Step) → s ≤ x → x ≤ e → IsFirst a s 0 (e - s) n w
    → IsWithin lo hi s 0 w → Passes s 0 x c w → IsThrough a lo hi s e n x c
through a lo hi s e n x c w le le' f k p = record {
  front = p.front;
  back = p.back;
  first_front = parts.front;
  first_back = back;
  within_front = within_front lo hi s 0 p.front p.back inside;
  within_back = subst₂ (λ (y z : ℕ). IsWithin lo hi y z p.back) p.v p.h (within_back lo hi s 0 p.front p.back inside);
  cost = omega (
    arith,
    f.least,
    ap (word_cost a s 0) p.joins,
    word_cost-append a s 0 p.front p.back,
    ap₂ (λ (y z : ℕ). word_cost a y z p.back) p.v p.h,
    parts.front.least,
    back.least,
  );
  col = omega (arith, few);
}
  where
    inside : IsWithin lo hi s 0 (p.front ++ p.back)
    inside = subst (IsWithin lo hi s 0) p.joins k

    rows : x - s + (e - x) ≡ e - s
    rows = omega arith

    few : c + count_h p.back ≡ n
    few = omega (arith, f.letters.h, ap count_h p.joins, count_h-append p.front p.back, p.h)

    letters_front : HasLetters (x - s) c p.front
    letters_front = record { v = omega (arith, p.v); h = omega (arith, p.h) }

    letters_back : HasLetters (e - x) (n - c) p.back
    letters_back = record {
      v = omega (arith, f.letters.v, ap count_v p.joins, count_v-append p.front p.back, p.v);
      h =
          omega (arith, few);
    }

    parts : IsFirstInParts a s 0 (x - s) c (e - x) (n - c) p.front p.back
    parts =
        parts_canonical a s 0 (x - s) c (e - x) (n - c) p.front p.back letters_front letters_back
        (subst₂ (λ (k l : ℕ). IsFirst a s 0 k l (p.front ++ p.back)) (sym rows) (omega (arith, few))
        (subst (IsFirst a s 0 (e - s) n) p.joins f))

    back : IsFirst a x c (e - x) (n - c) p.back
    back =
        let d : s + (x - s) ≡ x = omega arith in
        let z : 0 + c ≡ c = omega arith in
        subst₂ (λ (y k : ℕ). IsFirst a y k (e - x) (n - c) p.back) d z parts.back
