-- Rows, cell by cell and row by row.
use Rattle.std.proofs.Common.{◌≡◌, ◌↔◌, ℕ, ◌+◌, ◌<◌, Bool, true, false, List, [], ◌∷◌, ◌++◌, length, get_or, sym, ap, ◌∙◌, subst, arith, inl, inr}
use Rattle.std.proofs.lemmas.Bool.{cases_eq}
use Rattle.std.proofs.lemmas.List.{length-append, get_or_append_left, get_or_at}
use Rattle.correspondence.specs.Graphs.{mark, cell, IsRow, AreRows}

pub row_push : (row : List Bool) (j : ℕ) (b : Bool) (P : ℕ → Type 0) → IsRow row j P → (b ≡ true) ↔ P j
    → IsRow (row ++ b ∷ []) (j + 1) P
row_push row j b P r h = record {
  columns = omega (arith, length-append row (b ∷ []), r.columns);
  cells = λ k l. elim (cases_eq k j) [
    | inl e ↦ subst (λ (i : ℕ). (mark (row ++ b ∷ []) i ≡ true) ↔ P i) (sym e)
        (subst (λ (c : Bool). (c ≡ true) ↔ P j) (sym (get_or_at row b [] false j r.columns)) h)
    | inr ne ↦ subst (λ (c : Bool). (c ≡ true) ↔ P k)
        (sym (get_or_append_left row (b ∷ []) false k (omega (arith, r.columns, ne)))) (r.cells k (omega (arith, ne)))
  ];
}

pub rows_push : (table : List (List Bool)) (i m : ℕ) (row : List Bool) (R : ℕ → ℕ → Type 0) → AreRows table i m R
    → IsRow row m (R i) → AreRows (table ++ row ∷ []) (i + 1) m R
rows_push table i m row R t r =
    let new : get_or (table ++ row ∷ []) i [] ≡ row = get_or_at table row [] [] i t.rows in
    record {
      rows = omega (arith, length-append table (row ∷ []), t.rows);
      columns = λ k l. elim (cases_eq k i) [
        | inl e ↦ ap (λ (p : ℕ). length (get_or (table ++ row ∷ []) p [])) e ∙ ap length new ∙ r.columns
        | inr ne ↦ ap length (get_or_append_left table (row ∷ []) [] k (omega (arith, t.rows, ne)))
            ∙ t.columns k (omega (arith, ne))
      ];
      cells = λ k j l n. elim (cases_eq k i) [
        | inl e ↦ subst (λ (p : ℕ). (cell (table ++ row ∷ []) p j ≡ true) ↔ R p j) (sym e)
            (subst (λ (w : List Bool). (mark w j ≡ true) ↔ R i j) (sym new) (r.cells j n))
        | inr ne ↦ subst (λ (w : List Bool). (mark w j ≡ true) ↔ R k j)
            (sym (get_or_append_left table (row ∷ []) [] k (omega (arith, t.rows, ne))))
            (t.cells k j (omega (arith, ne)) n)
      ];
    }

pub row_at : (row : List Bool) (m : ℕ) (P Q : ℕ → Type 0) → IsRow row m P → ((j : ℕ) → j < m → P j ↔ Q j)
    → IsRow row m Q
row_at row m P Q r f = record {
  columns = r.columns;
  cells =
      λ j l. (λ h. (f j l).0 ((r.cells j l).0 h), λ h. (r.cells j l).1 ((f j l).1 h));
}

-- what holds of the first n items of a list by their places, and of one more
pub item_push : {X : Type 0} (P : ℕ → X → Type 0) (xs : List X) (y : X) (n : ℕ) → length xs ≡ n
    → ((k : ℕ) (d : X) → k < n → P k (get_or xs k d)) → P n y → (k : ℕ) (d : X) → k < n + 1
    → P k (get_or (xs ++ y ∷ []) k d)
item_push {X = X} P xs y n e before here k d l = elim (cases_eq k n) [
  | inl s ↦ subst (λ (i : ℕ). P i (get_or (xs ++ y ∷ []) i d)) (sym s)
      (subst (P n) (sym (get_or_at xs y [] d n e)) here)
  | inr ne ↦ subst (P k) (sym (get_or_append_left xs (y ∷ []) d k (omega (arith, e, l, ne))))
      (before k d (omega (arith, l, ne)))
]
