-- The first item of a list of lists that passes a test.
use Rattle.std.proofs.Common.{◌≡◌, ℕ, ◌+◌, ◌<◌, ◌≤◌, Bool, List, [], ◌∷◌, ◌++◌, length, take, drop, get_or, Option, None, Some, ap, ◌∙◌, subst, take_all}
use Rattle.std.specs.List.{find, flat_map}
use Rattle.std.specs.Option.{option_or}
use Rattle.std.proofs.lemmas.List.{append-nil}
use Rattle.std.proofs.lemmas.List.Folds.{find-append}
use Rattle.std.proofs.lemmas.Grind.{flat_map-append}
use Rattle.fku_types.proofs.ListLaws.{split_at, take_next}

-- what is found in the parts of a list, where the parts before a place have nothing
pub find_here : {X Y : Type 0} (p : Y → Bool) (g : X → List Y) (xs : List X) (i : ℕ) (x : X) (y : Y) → i < length xs
    → x ≡ get_or xs i x → find p (flat_map g (take i xs)) ≡ None → find p (g x) ≡ Some y
    → find p (flat_map g xs) ≡ Some y
find_here {X = X} {Y = Y} p g xs i x y l e none here =
    ap (λ (ys : List X). find p (flat_map g ys)) (split_at xs i x l e)
    ∙ ap (find p) (flat_map-append g (take i xs) (x ∷ drop (i + 1) xs))
    ∙ find-append p (flat_map g (take i xs)) (g x ++ flat_map g (drop (i + 1) xs))
    ∙ ap (λ (o : Option Y). option_or o (find p (g x ++ flat_map g (drop (i + 1) xs)))) none
    ∙ find-append p (g x) (flat_map g (drop (i + 1) xs))
    ∙ ap (λ (o : Option Y). option_or o (find p (flat_map g (drop (i + 1) xs)))) here

pub find_more : {X Y : Type 0} (p : Y → Bool) (g : X → List Y) (xs : List X) (i : ℕ) (x : X) → i < length xs
    → x ≡ get_or xs i x → find p (flat_map g (take i xs)) ≡ None → find p (g x) ≡ None
    → find p (flat_map g (take (i + 1) xs)) ≡ None
find_more {X = X} {Y = Y} p g xs i x l e none here =
    ap (λ (ys : List X). find p (flat_map g ys)) (take_next xs i x l e)
    ∙ ap (find p) (flat_map-append g (take i xs) (x ∷ []))
    ∙ ap (λ (ys : List Y). find p (flat_map g (take i xs) ++ ys)) (append-nil (g x))
    ∙ find-append p (flat_map g (take i xs)) (g x)
    ∙ ap (λ (o : Option Y). option_or o (find p (g x))) none
    ∙ here

pub find_all : {X Y : Type 0} (p : Y → Bool) (g : X → List Y) (xs : List X) (i : ℕ) → length xs ≤ i
    → find p (flat_map g (take i xs)) ≡ None → find p (flat_map g xs) ≡ None
find_all {X = X} p g xs i l none = subst (λ (ys : List X). find p (flat_map g ys) ≡ None) (take_all i xs l) none
