-- The canonical word of a region, letter by letter.
use Rattle.std.proofs.Common.{min, length-set, ◌≡◌, ◌≢◌, ℕ, ◌+◌, ◌-◌, ◌<◌, ◌≤◌, List, [], ◌∷◌, ◌++◌, length, get_or, set, get_or-set_other, get_or-set_same, append_assoc, append-nil, refl, ap, sym, ◌∙◌, subst, subst₂, arith, ◌⊎◌, inl, inr}
use Rattle.std.proofs.lemmas.Bool.{cases_lt}
use Rattle.strip_graph.specs.declared.tilings.Step.{Step}
use Rattle.strip_graph.specs.declared.tilings.Step.TheVariants.{V, H}
use Rattle.strip_graph.specs.Words.{Arcs, count_v, count_h}
use Rattle.strip_graph.specs.Distances.{IsFirst, distance}
use Rattle.strip_graph.proofs.WordLaws.{count_v-append, count_h-append}
use Rattle.strip_graph.specs.Paths.{entry}
use Rattle.strip_graph.specs.Regions.{IsWithin, IsRegional}
use Rattle.strip_graph.proofs.Regional.{within_start, regional_is_least}
use Rattle.strip_graph.proofs.Sides.{entry-start, entry-next, entry-end}
use Rattle.strip_graph.proofs.Canonical.{canonical, only_canonical}
use Rattle.row_paths.specs.Searches.{bound_at, LeadsDown, LeadsRight, StaysIn, HasEntries}
use Rattle.row_paths.proofs.Places.{first_at, regional_at}

-- a word is traced up to a row and a column: where it entered the rows so far, and the rest of it
pub record IsTraced (a : Arcs) (lo hi : ℕ → ℕ) (n start end : ℕ) (word : List Step) (path : List ℕ) (row col : ℕ) : Type
    0 where
  pub front : List Step
  pub back : List Step
  pub joins : word ≡ front ++ back
  pub v : start + count_v front ≡ row
  pub h : count_h front ≡ col
  pub above : row ≤ end
  pub left : col ≤ n
  pub first : IsFirst a row col (end - row) (n - col) back
  pub within : IsWithin lo hi row col back
  pub entries : (x : ℕ) → x ≤ row → get_or path x 0 ≡ entry start 0 word x
  pub rest : (x : ℕ) → row < x → x < length path → get_or path x 0 ≡ n

-- at the start
pub traced_none : (a : Arcs) (lo hi : ℕ → ℕ) (n start end : ℕ) (word : List Step) (path : List ℕ) → start ≤ end
    → IsFirst a start 0 (end - start) n word → IsWithin lo hi start 0 word → ((x : ℕ) → x ≤ start → get_or path x 0 ≡ 0)
    → ((x : ℕ) → start < x → x < length path → get_or path x 0 ≡ n) → IsTraced a lo hi n start end word path start 0
traced_none a lo hi n start end word path le f k none rest = record {
  front = [];
  back = word;
  joins = refl;
  v = omega arith;
  h = refl;
  above = le;
  left = omega arith;
  first = first_at a start 0 (end - start) (end - start) n (n - 0) word refl (omega arith) f;
  within = k;
  entries = λ x from. omega (arith, none x from, entry-start start 0 word x from);
  rest = rest;
}

-- one more letter V, and one more letter H
pub traced_down : (a : Arcs) (lo hi : ℕ → ℕ) (n start end : ℕ) (word : List Step) (path : List ℕ) (row col : ℕ)
    → IsTraced a lo hi n start end word path row col → LeadsDown a lo hi end n row col → row + 1 < length path
    → IsTraced a lo hi n start end word (set path (row + 1) col) (row + 1) col
traced_down a lo hi n start end word path row col t d fits =
    let k = d.goes t.back t.first t.within in
    let e : word ≡ t.front ++ V ∷ k.rest = t.joins ∙ ap (λ (w : List Step). t.front ++ w) k.is in
    record {
      front = t.front ++ V ∷ [];
      back = k.rest;
      joins = e ∙ sym (append_assoc t.front (V ∷ []) k.rest);
      v = omega (arith, count_v-append t.front (V ∷ []), t.v);
      h = omega (arith, count_h-append t.front (V ∷ []), t.h);
      above = omega (arith, d.row);
      left = t.left;
      first = k.first;
      within = k.within;
      entries = λ x le. elim (cases_lt x (row + 1)) [
        | inl lt ↦ (let ne : x ≢ row + 1 = omega arith in rw get_or-set_other (t.entries x (omega arith)))
        | inr ge ↦ (let same : x ≡ row + 1 = omega arith in
            let next = entry-next start 0 t.front k.rest in
            let at : start + count_v t.front + 1 ≡ row + 1 = omega (arith, t.v) in
            let is : col ≡ entry start 0 word (row + 1) =
            omega (
              arith,
              next,
              t.h,
              ap (λ (w : List Step). entry start 0 w (row + 1)) e,
              ap (entry start 0 (t.front ++ V ∷ k.rest)) at,
            ) in
            rw (same, get_or-set_same) is)
      ];
      rest = λ x lt le. let ne : x ≢ row + 1 = omega arith in
          rw get_or-set_other (t.rest x (omega arith) (omega (arith, length-set path (row + 1) col, le)));
    }

pub traced_right : (a : Arcs) (lo hi : ℕ → ℕ) (n start end : ℕ) (word : List Step) (path : List ℕ) (row col : ℕ)
    → IsTraced a lo hi n start end word path row col → LeadsRight a lo hi end n row col
    → IsTraced a lo hi n start end word path row (col + 1)
traced_right a lo hi n start end word path row col t d =
    let k = d.goes t.back t.first t.within in
    let e : word ≡ t.front ++ H ∷ k.rest = t.joins ∙ ap (λ (w : List Step). t.front ++ w) k.is in
    record {
      front = t.front ++ H ∷ [];
      back = k.rest;
      joins = e ∙ sym (append_assoc t.front (H ∷ []) k.rest);
      v = omega (arith, count_v-append t.front (H ∷ []), t.v);
      h = omega (arith, count_h-append t.front (H ∷ []), t.h);
      above = t.above;
      left = omega (arith, d.col);
      first = k.first;
      within = k.within;
      entries = t.entries;
      rest = t.rest;
    }

-- at the end all entries are there
pub traced_all : (a : Arcs) (lo hi : ℕ → ℕ) (n start end : ℕ) (word : List Step) (path : List ℕ) → start ≤ end
    → end + 1 < length path → IsFirst a start 0 (end - start) n word → IsTraced a lo hi n start end word path end n
    → HasEntries a n start end path
traced_all a lo hi n start end word path le fits f t w g x =
    let same = only_canonical a start 0 (end - start) n w word g f in
    at (cases_lt end x) ∙ ap (λ (u : List Step). entry start 0 u x) (sym same)
  where
    at : (end < x) ⊎ (x ≤ end) → bound_at path x ≡ entry start 0 word x
    at (inl lt) = omega (
      arith,
      t.rest (min x (length path - 1)) (omega arith) (omega arith),
      entry-end start 0 word x (omega (arith, f.letters.v)),
      f.letters.h,
    )
    at (inr ge) = let e : min x (length path - 1) ≡ x = omega arith in
        omega (arith, ap (λ (k : ℕ). get_or path k 0) e, t.entries x ge)

-- the list and the place may be written in another way
pub traced_same : (a : Arcs) (lo hi : ℕ → ℕ) (n start end : ℕ) (word : List Step) (path path' : List ℕ)
    (row row' col col' : ℕ) → path' ≡ path → row' ≡ row → col' ≡ col → IsTraced a lo hi n start end word path row col
    → IsTraced a lo hi n start end word path' row' col'
traced_same a lo hi n start end word path path' row row' col col' e f d t =
    subst (λ (p : List ℕ). IsTraced a lo hi n start end word p row' col') (sym e)
    (subst₂ (λ (x y : ℕ). IsTraced a lo hi n start end word path x y) (sym f) (sym d) t)

-- the cost from the first place of a region that the canonical word stays in
pub found_cost : (a : Arcs) (lo hi : ℕ → ℕ) (end n start cost : ℕ)
    → (lo start ≡ 0 → IsRegional a lo hi start 0 (end - start) (n - 0) cost) → StaysIn a lo hi n start end
    → cost ≡ distance a start 0 (end - start) n
found_cost a lo hi end n start cost f stays =
    let k = canonical a start 0 (end - start) n in
    let inside = within_start lo hi start 0 k.word (stays k.word k.first) in
    regional_is_least a lo hi start 0 (end - start) n cost k.word
    (regional_at a lo hi start 0 (end - start) (end - start) (n - 0) n cost refl (omega arith)
    (f (omega (arith, inside.from)))) k.first (stays k.word k.first)

-- a word is spelled up to a row and a column
pub record IsSpelled (a : Arcs) (lo hi : ℕ → ℕ) (n start end : ℕ) (word so_far : List Step) (row col : ℕ) : Type 0 where
  pub back : List Step
  pub joins : word ≡ so_far ++ back
  pub v : start + count_v so_far ≡ row
  pub h : count_h so_far ≡ col
  pub above : row ≤ end
  pub left : col ≤ n
  pub first : IsFirst a row col (end - row) (n - col) back
  pub within : IsWithin lo hi row col back

pub spelled_down : (a : Arcs) (lo hi : ℕ → ℕ) (n start end : ℕ) (word so_far more : List Step) (row col : ℕ)
    → more ≡ so_far ++ V ∷ [] → IsSpelled a lo hi n start end word so_far row col → LeadsDown a lo hi end n row col
    → IsSpelled a lo hi n start end word more (row + 1) col
spelled_down a lo hi n start end word so_far more row col is t d =
    let k = d.goes t.back t.first t.within in
    record {
      back = k.rest;
      joins = t.joins ∙ ap (λ (w : List Step). so_far ++ w) k.is ∙ sym (append_assoc so_far (V ∷ []) k.rest)
          ∙ sym (ap (λ (w : List Step). w ++ k.rest) is);
      v = omega (arith, count_v-append so_far (V ∷ []), ap count_v is, t.v);
      h = omega (arith, count_h-append so_far (V ∷ []), ap count_h is, t.h);
      above = omega (arith, d.row);
      left = t.left;
      first = k.first;
      within = k.within;
    }

pub spelled_right : (a : Arcs) (lo hi : ℕ → ℕ) (n start end : ℕ) (word so_far more : List Step) (row col : ℕ)
    → more ≡ so_far ++ H ∷ [] → IsSpelled a lo hi n start end word so_far row col → LeadsRight a lo hi end n row col
    → IsSpelled a lo hi n start end word more row (col + 1)
spelled_right a lo hi n start end word so_far more row col is t d =
    let k = d.goes t.back t.first t.within in
    record {
      back = k.rest;
      joins = t.joins ∙ ap (λ (w : List Step). so_far ++ w) k.is ∙ sym (append_assoc so_far (H ∷ []) k.rest)
          ∙ sym (ap (λ (w : List Step). w ++ k.rest) is);
      v = omega (arith, count_v-append so_far (H ∷ []), ap count_v is, t.v);
      h = omega (arith, count_h-append so_far (H ∷ []), ap count_h is, t.h);
      above = t.above;
      left = omega (arith, d.col);
      first = k.first;
      within = k.within;
    }

-- no letter is left at the end
pub spelled_all : (a : Arcs) (lo hi : ℕ → ℕ) (n start end : ℕ) (word so_far : List Step) (row col : ℕ) → row ≡ end
    → col ≡ n → IsFirst a start 0 (end - start) n word → IsSpelled a lo hi n start end word so_far row col
    → IsFirst a start 0 (end - start) n so_far
spelled_all a lo hi n start end word so_far row col e f first t =
    subst (IsFirst a start 0 (end - start) n)
    (t.joins ∙ ap (λ (w : List Step). so_far ++ w) (none t.back t.first) ∙ append-nil so_far) first
  where
    none : (back : List Step) → IsFirst a row col (end - row) (n - col) back → back ≡ []
    none [] k = refl
    none (V ∷ w) k = absurd (omega (arith, k.letters.v, e))
    none (H ∷ w) k = absurd (omega (arith, k.letters.h, f))
