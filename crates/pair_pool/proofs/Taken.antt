-- A list whose items are taken in turn.
use Rattle.std.proofs.Common.{◌≡◌, ℕ, ◌<◌, List, [], ◌∷◌, ◌++◌, All, length, get_or, refl, sym, ap, ◌∙◌, subst, arith}
use Rattle.std.proofs.lemmas.List.{append-nil, append_assoc, get_or_at, length-append, nil_from_length}

-- the items that were taken, and those that are left, with their number
pub record AreTaken {X : Type 0} (all done rest : List X) (count : ℕ) : Type 0 where
  pub whole : done ++ rest ≡ all
  pub left : count ≡ length rest

-- before the first is taken
pub none_taken : {X : Type 0} (all rest : List X) (count : ℕ) → rest ≡ all → count ≡ length all
    → AreTaken all [] rest count
none_taken all rest count is n = record { whole = is; left = omega (arith, n, ap length is) }

-- one more is taken
pub taken_more : {X : Type 0} (all done was rest : List X) (x : X) (count : ℕ) → was ≡ x ∷ rest → count ≡ length rest
    → (n : ℕ) → AreTaken all done was n → AreTaken all (done ++ x ∷ []) rest count
taken_more {X = X} all done was rest x count is n m h = record {
  whole = append_assoc done (x ∷ []) rest ∙ (ap (λ (xs : List X). done ++ xs) (sym is) ∙ h.whole);
  left = n;
}

-- the next one is an item of the whole list, at the place after those that were taken
pub next_is : {X : Type 0} (all done was rest : List X) (x : X) (count : ℕ) → was ≡ x ∷ rest
    → AreTaken all done was count → (length done < length all) × (get_or all (length done) x ≡ x)
next_is {X = X} all done was rest x count is h =
    let whole : all ≡ done ++ x ∷ rest = sym h.whole ∙ ap (λ (xs : List X). done ++ xs) is in (
      omega (arith, ap length whole, length-append done (x ∷ rest)),
      ap (λ (xs : List X). get_or xs (length done) x) whole ∙ get_or_at done x rest x (length done) refl,
    )

-- what holds of all holds of the next one
pub next_right : {X : Type 0} (P : X → Type 0) (all done was rest : List X) (x : X) (count : ℕ) → was ≡ x ∷ rest
    → AreTaken all done was count → All P all → P x
next_right P all done was rest x count is taken h =
    let next = next_is all done was rest x count is taken in
    subst P next.1 (h (length done) x next.0)

-- if none is left, all were taken
pub all_taken : {X : Type 0} (all done rest : List X) (count : ℕ) → count ≡ 0 → AreTaken all done rest count
    → done ≡ all
all_taken {X = X} all done rest count none h =
    let left : rest ≡ [] = nil_from_length rest (sym h.left ∙ none) in
    sym (append-nil done) ∙ (ap (λ (xs : List X). done ++ xs) (sym left) ∙ h.whole)
