-- One more item of a list that is made of the numbers from 0 on.
use Rattle.std.proofs.Common.{◌≡◌, ℕ, ◌+◌, Bool, true, false, cond, List, [], ◌∷◌, ◌++◌, map, filter, flat_map, ap, ◌∙◌, append-nil}
use Rattle.std.specs.List.{range_with_len}
use Rattle.std.proofs.lemmas.List.{map-append}
use Rattle.std.proofs.lemmas.List.Elements.{filter-append}
use Rattle.std.proofs.lemmas.Grind.{flat_map-append}
use Rattle.fku_types.proofs.ListLaws.{range_more}

pub map_more : {X : Type 0} (f : ℕ → X) (n : ℕ)
    → map f (range_with_len 0 (n + 1)) ≡ map f (range_with_len 0 n) ++ f n ∷ []
map_more f n = ap (map f) (range_more n) ∙ map-append f (range_with_len 0 n) (n ∷ [])

pub flat_more : {X : Type 0} (f : ℕ → List X) (n : ℕ)
    → flat_map f (range_with_len 0 (n + 1)) ≡ flat_map f (range_with_len 0 n) ++ f n
flat_more {X} f n = ap (flat_map f) (range_more n) ∙ flat_map-append f (range_with_len 0 n) (n ∷ [])
    ∙ ap (λ (l : List X). flat_map f (range_with_len 0 n) ++ l) (append-nil (f n))

pub filter_more : (p : ℕ → Bool) (n : ℕ)
    → filter p (range_with_len 0 (n + 1)) ≡ filter p (range_with_len 0 n) ++ cond (p n) (n ∷ []) []
filter_more p n = ap (filter p) (range_more n) ∙ filter-append p (range_with_len 0 n) (n ∷ [])

-- the items that pass continue a list
pub map_passed : {X : Type 0} (f : ℕ → X) (p : ℕ → Bool) (n : ℕ) → p n ≡ true
    → map f (filter p (range_with_len 0 (n + 1))) ≡ map f (filter p (range_with_len 0 n)) ++ f n ∷ []
map_passed f p n e = ap (map f) (filter_more p n
    ∙ ap (λ (b : Bool). filter p (range_with_len 0 n) ++ cond b (n ∷ []) []) e)
    ∙ map-append f (filter p (range_with_len 0 n)) (n ∷ [])

pub map_failed : {X : Type 0} (f : ℕ → X) (p : ℕ → Bool) (n : ℕ) → p n ≡ false
    → map f (filter p (range_with_len 0 (n + 1))) ≡ map f (filter p (range_with_len 0 n))
map_failed f p n e = ap (map f) (filter_more p n
    ∙ ap (λ (b : Bool). filter p (range_with_len 0 n) ++ cond b (n ∷ []) []) e
    ∙ append-nil (filter p (range_with_len 0 n)))

pub flat_passed : {X : Type 0} (f : ℕ → List X) (p : ℕ → Bool) (n : ℕ) → p n ≡ true
    → flat_map f (filter p (range_with_len 0 (n + 1))) ≡ flat_map f (filter p (range_with_len 0 n)) ++ f n
flat_passed {X} f p n e =
    ap (flat_map f) (filter_more p n ∙ ap (λ (b : Bool). filter p (range_with_len 0 n) ++ cond b (n ∷ []) []) e)
    ∙ flat_map-append f (filter p (range_with_len 0 n)) (n ∷ [])
    ∙ ap (λ (l : List X). flat_map f (filter p (range_with_len 0 n)) ++ l) (append-nil (f n))

pub flat_failed : {X : Type 0} (f : ℕ → List X) (p : ℕ → Bool) (n : ℕ) → p n ≡ false
    → flat_map f (filter p (range_with_len 0 (n + 1))) ≡ flat_map f (filter p (range_with_len 0 n))
flat_failed f p n e = ap (flat_map f)
    (filter_more p n ∙ ap (λ (b : Bool). filter p (range_with_len 0 n) ++ cond b (n ∷ []) []) e
    ∙ append-nil (filter p (range_with_len 0 n)))
