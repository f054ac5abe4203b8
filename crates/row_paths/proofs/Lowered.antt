-- A word m rows further down: it costs the same, so the first word once round below is a turn's word too.
use Rattle.std.proofs.Common.{◌∙◌, ◌≡◌, ℕ, ◌+◌, ◌-◌, ◌*◌, ◌<◌, ◌≤◌, min, List, [], ◌∷◌, ◌++◌, length, get_or, replicate, take, refl, ap, sym, subst₂, arith, ◌⊎◌, inl, inr}
use Rattle.std.proofs.lemmas.Bool.{cases_lt}
use Rattle.std.proofs.lemmas.List.{length-append, length-replicate, length-take-le, get_or_append_left, get_or-append_right, get_or-replicate, get_or-take}
use Rattle.strip_graph.specs.declared.tilings.Step.{Step}
use Rattle.strip_graph.specs.declared.tilings.Step.TheVariants.{V, H}
use Rattle.strip_graph.specs.Words.{Arcs}
use Rattle.strip_graph.specs.Distances.{distance, IsFirst}
use Rattle.strip_graph.specs.Paths.{entry}
use Rattle.strip_graph.proofs.WordLaws.{Periodic, word_cost-row}
use Rattle.strip_graph.proofs.LeastWords.{distance-le, distance-reached}
use Rattle.strip_graph.proofs.Sides.{entry-start, entry-v, entry-h, entry-end}
use Rattle.row_paths.specs.Searches.{bound_at}
use Rattle.row_paths.specs.Turns.{IsPathOf}
use Rattle.row_paths.proofs.Places.{bound_at-read}

-- it enters the rows in the same columns
entry-lowered : (m i i' j : ℕ) (w : List Step) (x x' : ℕ) → i' ≡ i + m → x' ≡ x + m → entry i' j w x' ≡ entry i j w x
entry-lowered m i i' j [] x x' e d = refl
entry-lowered m i i' j (V ∷ w) x x' e d =
    elim (cases_lt i x) [
      | inl lt ↦ omega (
        arith,
        entry-v i' j w x' (omega arith),
        entry-v i j w x lt,
        entry-lowered m (i + 1) (i' + 1) j w x x' (omega arith) d,
      )
      | inr ge ↦ omega (arith, entry-start i' j (V ∷ w) x' (omega arith), entry-start i j (V ∷ w) x ge)
    ]
entry-lowered m i i' j (H ∷ w) x x' e d =
    elim (cases_lt i x) [
      | inl lt ↦ omega (
        arith,
        entry-h i' j w x' (omega arith),
        entry-h i j w x lt,
        entry-lowered m i i' (j + 1) w x x' e d,
      )
      | inr ge ↦ omega (arith, entry-start i' j (H ∷ w) x' (omega arith), entry-start i j (H ∷ w) x ge)
    ]

-- a canonical word is that further up too
first-raised : (a : Arcs) (m n i j r c : ℕ) (w : List Step) → Periodic a m n → IsFirst a (i + m) j r c w
    → IsFirst a i j r c w
first-raised a m n i j r c w p f = record {
  letters = f.letters;
  least = omega (arith, f.least, word_cost-row a m n p i j w, same);
  first = λ u k e. f.first u k (omega (arith, e, word_cost-row a m n p i j u, same));
}
  where
    same : distance a (i + m) j r c ≡ distance a i j r c
    same =
        let k = distance-reached a i j r c in
        let l = distance-reached a (i + m) j r c in
        omega (
          arith,
          k.cost,
          l.cost,
          word_cost-row a m n p i j k.word,
          word_cost-row a m n p i j l.word,
          distance-le a i j r c l.word l.letters,
          distance-le a (i + m) j r c k.word k.letters,
        )

-- the columns in which a word enters the rows, m rows further down
abbrev pub lowered : ℕ → List ℕ → List ℕ
lowered m path = replicate m 0 ++ take (m + 2) path

pub lowered_count : (m : ℕ) (path : List ℕ) → m + 2 ≤ length path → length (lowered m path) ≡ m + (m + 2)
lowered_count m path fits = omega (
  arith,
  length-append (replicate m 0) (take (m + 2) path),
  length-replicate {A = ℕ} m 0,
  length-take-le (m + 2) path fits,
)

lowered_above : (m : ℕ) (path : List ℕ) (x : ℕ) → m + 2 ≤ length path → x < m → bound_at (lowered m path) x ≡ 0
lowered_above m path x fits lt =
    bound_at-read (lowered m path) x (omega (arith, lowered_count m path fits))
    ∙ get_or_append_left (replicate m 0) (take (m + 2) path) 0 x (omega (arith, length-replicate {A = ℕ} m 0))
    ∙ get_or-replicate {A = ℕ} m x 0 0 lt

lowered_below : (m : ℕ) (path : List ℕ) (x : ℕ) → m + 2 ≤ length path → m ≤ x
    → bound_at (lowered m path) x ≡ bound_at path (min (x - m) (m + 1))
lowered_below m path x fits le =
    let y : ℕ = min (x - m) (m + 1) in
    let e : min x (length (lowered m path) - 1) ≡ y + m = omega (arith, lowered_count m path fits) in
    ap (λ (k : ℕ). get_or (lowered m path) k 0) e
    ∙ get_or-append_right (replicate m 0) (take (m + 2) path) m (y + m) 0 (length-replicate {A = ℕ} m 0) (omega arith)
    ∙ ap (λ (k : ℕ). get_or (take (m + 2) path) k 0) (omega arith)
    ∙ get_or-take (m + 2) path y 0 (omega arith)
    ∙ sym (bound_at-read path y (omega (arith, fits)))

-- the word of the turn from row m to itself is the first one, once round below
pub lowered_path : (a : Arcs) (m n : ℕ) (path : List ℕ) → Periodic a m n → m + 2 ≤ length path → IsPathOf a m n 0 path
    → IsPathOf a m n (2 * m) (lowered m path)
lowered_path a m n path p fits k w f x =
    at (cases_lt x m) ∙ ap (λ (i : ℕ). entry i 0 w x) (omega arith)
  where
    here : IsFirst a m 0 m n w
    here = subst₂ (λ (i r : ℕ). IsFirst a i 0 r n w) (omega arith) (omega arith) f

    above : IsFirst a 0 0 m n w
    above = first-raised a m n 0 0 m n w p (subst₂ (λ (i r : ℕ). IsFirst a i 0 r n w) (omega arith) refl here)

    read : (y : ℕ) → bound_at path y ≡ entry 0 0 w y
    read y = k w (subst₂ (λ (i r : ℕ). IsFirst a i 0 r n w) (omega arith) (omega arith) above) y
        ∙ ap (λ (i : ℕ). entry i 0 w y) (omega arith)

    within : (y : ℕ) → m < y → entry 0 0 w y ≡ n
    within y lt = omega (arith, entry-end 0 0 w y (omega (arith, here.letters.v)), here.letters.h)

    capped : (y : ℕ) → (y < m + 2) ⊎ (m + 2 ≤ y) → entry 0 0 w (min y (m + 1)) ≡ entry 0 0 w y
    capped y (inl lt) = ap (entry 0 0 w) (omega arith)
    capped y (inr ge) = within (min y (m + 1)) (omega arith) ∙ sym (within y (omega arith))

    at : (x < m) ⊎ (m ≤ x) → bound_at (lowered m path) x ≡ entry m 0 w x
    at (inl lt) = lowered_above m path x fits lt ∙ sym (entry-start m 0 w x (omega arith))
    at (inr ge) =
        lowered_below m path x fits ge ∙ read (min (x - m) (m + 1)) ∙ capped (x - m) (cases_lt (x - m) (m + 2))
        ∙ sym (entry-lowered m 0 m 0 w (x - m) x (omega arith) (omega arith))
