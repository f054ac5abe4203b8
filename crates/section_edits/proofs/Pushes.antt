-- One more item of a list: changed, or filtered and so kept or skipped.
use Rattle.std.proofs.Common.{◌≡◌, ℕ, ◌+◌, ◌<◌, Bool, true, false, cond, List, [], ◌∷◌, ◌++◌, length, take, get_or, map, sym, ap, ap₂, ◌∙◌}
use Rattle.std.specs.Prelude.{filter}
use Rattle.std.proofs.lemmas.List.{map-append, append-nil}
use Rattle.std.proofs.lemmas.List.Elements.{filter-append}
use Rattle.std.proofs.lemmas.Simd.{map-map}
use Rattle.fku_types.proofs.ListLaws.{copied, take_next}

-- each item of the views of a list is changed
pub changed_more : {A X Z B : Type 0} (view : A → B) (h : X → Z) (f : Z → B) (old new : List A) (y : A) (xs : List X)
    (i : ℕ) (x : X) → i < length xs → x ≡ get_or xs i x → new ≡ old ++ y ∷ []
    → map view old ≡ map f (map h (take i xs)) → view y ≡ f (h x) → map view new ≡ map f (map h (take (i + 1) xs))
changed_more {X = X} {B = B} view h f old new y xs i x l e more before here =
    let both : X → B = λ w. f (h w) in
    copied view both old new y xs i x l e more (before ∙ map-map f h (take i xs)) here
    ∙ sym (map-map f h (take (i + 1) xs))

-- the filtered front with one more item
filter_front : {X B : Type 0} (h : X → B) (p : B → Bool) (xs : List X) (i : ℕ) (x : X) → i < length xs
    → x ≡ get_or xs i x
    → filter p (map h (take (i + 1) xs)) ≡ filter p (map h (take i xs)) ++ cond (p (h x)) (h x ∷ []) []
filter_front {X = X} h p xs i x l e =
    ap (λ (ys : List X). filter p (map h ys)) (take_next xs i x l e) ∙ ap (filter p) (map-append h (take i xs) (x ∷ []))
    ∙ filter-append p (map h (take i xs)) (h x ∷ [])

pub kept : {A X B : Type 0} (view : A → B) (h : X → B) (p : B → Bool) (old new : List A) (y : A) (xs : List X) (i : ℕ)
    (x : X) → i < length xs → x ≡ get_or xs i x → new ≡ old ++ y ∷ []
    → map view old ≡ filter p (map h (take i xs)) → p (h x) ≡ true → view y ≡ h x
    → map view new ≡ filter p (map h (take (i + 1) xs))
kept {B = B} view h p old new y xs i x l e more before passes here =
    ap (map view) more ∙ map-append view old (y ∷ []) ∙ ap₂ (λ (bs : List B) (b : B). bs ++ b ∷ []) before here
    ∙ sym (filter_front h p xs i x l e ∙ ap (λ (b : Bool). filter p (map h (take i xs)) ++ cond b (h x ∷ []) []) passes)

pub passed : {A X B : Type 0} (view : A → B) (h : X → B) (p : B → Bool) (old : List A) (xs : List X) (i : ℕ) (x : X)
    → i < length xs → x ≡ get_or xs i x
    → map view old ≡ filter p (map h (take i xs)) → p (h x) ≡ false → map view old ≡ filter p (map h (take (i + 1) xs))
passed {B = B} view h p old xs i x l e before fails =
    before ∙ sym (filter_front h p xs i x l e
    ∙ ap (λ (b : Bool). filter p (map h (take i xs)) ++ cond b (h x ∷ []) []) fails
    ∙ append-nil (filter p (map h (take i xs))))
