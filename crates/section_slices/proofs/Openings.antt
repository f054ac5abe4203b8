-- Spots that are removed from the end of a list.
use Rattle.std.proofs.Common.{◌≡◌, ℕ, zero, suc, ◌+◌, ◌-◌, ◌<◌, ◌≤◌, Bool, true, false, cond, List, [], ◌∷◌, ◌++◌, length, take, get_or, refl, sym, ap, ◌∙◌, arith, subst}
use Rattle.std.proofs.lemmas.List.{take_more}
use Rattle.fku_types.specs.declared.points.Spot.{Spot}
use Rattle.section_slices.specs.Roundings.{is_same_spot, before_rest, without_end, opened_loop}

-- one more spot at the end
more_same : (s : Spot) (xs : List Spot) (p : Spot) → is_same_spot p s ≡ true
    → without_end s (xs ++ p ∷ []) ≡ without_end s xs
more_same s [] p e = ap (λ (b : Bool). cond b [] (p ∷ [])) e
more_same s (x ∷ xs) p e = ap (before_rest s x) (more_same s xs p e)

stays : (s x : Spot) (xs : List Spot) (p : Spot) → before_rest s x (xs ++ p ∷ []) ≡ x ∷ (xs ++ p ∷ [])
stays s x [] p = refl
stays s x (y ∷ xs) p = refl

more_other : (s : Spot) (xs : List Spot) (p : Spot) → is_same_spot p s ≡ false
    → without_end s (xs ++ p ∷ []) ≡ xs ++ p ∷ []
more_other s [] p e = ap (λ (b : Bool). cond b [] (p ∷ [])) e
more_other s (x ∷ xs) p e = ap (before_rest s x) (more_other s xs p e) ∙ stays s x xs p

opened_same : (xs : List Spot) (p d : Spot) → 0 < length xs → is_same_spot p (get_or xs 0 d) ≡ true
    → opened_loop (xs ++ p ∷ []) ≡ opened_loop xs
opened_same [] p d l e = absurd (omega arith)
opened_same (x ∷ xs) p d l e = ap (λ (ys : List Spot). x ∷ ys) (more_same x xs p e)

opened_other : (xs : List Spot) (p d : Spot) → 0 < length xs → is_same_spot p (get_or xs 0 d) ≡ false
    → opened_loop (xs ++ p ∷ []) ≡ xs ++ p ∷ []
opened_other [] p d l e = absurd (omega arith)
opened_other (x ∷ xs) p d l e = ap (λ (ys : List Spot). x ∷ ys) (more_other x xs p e)

-- the first of some spots
first_is : (xs : List Spot) (n : ℕ) (d : Spot) → 0 < n → get_or (take n xs) 0 d ≡ get_or xs 0 d
first_is [] zero d l = refl
first_is [] (suc n) d l = refl
first_is (x ∷ xs) zero d l = absurd (omega arith)
first_is (x ∷ xs) (suc n) d l = refl

parted : (xs : List Spot) (n : ℕ) (d : Spot) → 1 < n → n ≤ length xs
    → take n xs ≡ take (n - 1) xs ++ get_or xs (n - 1) d ∷ []
parted xs n d l h = ap (λ (k : ℕ). take k xs) (let e : n ≡ n - 1 + 1 = omega (arith, l) in e)
    ∙ take_more xs (n - 1) d (omega (arith, l, h))

some_left : (xs : List Spot) (n : ℕ) → 1 < n → n ≤ length xs → 0 < length (take (n - 1) xs)
some_left [] n l h = absurd (omega (arith, l, h))
some_left (x ∷ xs) zero l h = absurd (omega (arith, l))
some_left (x ∷ xs) (suc zero) l h = absurd (omega (arith, l))
some_left (x ∷ xs) (suc (suc n)) l h = let e : suc (suc n) - 1 ≡ suc n = omega arith in
    subst (λ (k : ℕ). 0 < length (take k (x ∷ xs))) (sym e) (omega arith)

-- the last of n spots is removed
pub one_less : (xs : List Spot) (n : ℕ) (d : Spot) → 1 < n → n ≤ length xs
    → is_same_spot (get_or xs (n - 1) d) (get_or xs 0 d) ≡ true
    → opened_loop (take (n - 1) xs) ≡ opened_loop (take n xs)
one_less xs n d l h e =
    let s : is_same_spot (get_or xs (n - 1) d) (get_or (take (n - 1) xs) 0 d) ≡ true =
    ap (is_same_spot (get_or xs (n - 1) d)) (first_is xs (n - 1) d (omega (arith, l))) ∙ e in
    sym (opened_same (take (n - 1) xs) (get_or xs (n - 1) d) d (some_left xs n l h) s)
    ∙ ap opened_loop (sym (parted xs n d l h))

-- or it stays
pub all_stay : (xs : List Spot) (n : ℕ) (d : Spot) → 1 < n → n ≤ length xs
    → is_same_spot (get_or xs (n - 1) d) (get_or xs 0 d) ≡ false → opened_loop (take n xs) ≡ take n xs
all_stay xs n d l h e =
    let s : is_same_spot (get_or xs (n - 1) d) (get_or (take (n - 1) xs) 0 d) ≡ false =
    ap (is_same_spot (get_or xs (n - 1) d)) (first_is xs (n - 1) d (omega (arith, l))) ∙ e in
    ap opened_loop (parted xs n d l h) ∙ opened_other (take (n - 1) xs) (get_or xs (n - 1) d) d (some_left xs n l h) s
    ∙ sym (parted xs n d l h)
