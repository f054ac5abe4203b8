-- What a loop over a list has done: with one more item, and with all of them.
use Rattle.std.proofs.Common.{◌≡◌, ◌+◌, ◌<◌, ◌≤◌, ◌++◌, ◌∙◌, List, [], ◌∷◌, ℕ, map, take, length, get_or, inl, inr, arith, ap, ap₂, sym, subst}
use Rattle.std.specs.List.{flat_map}
use Rattle.std.proofs.lemmas.Bool.{cases_lt}
use Rattle.std.proofs.lemmas.Grind.{common_steps}
use Rattle.std.proofs.lemmas.List.{map-append, take_all, take_more, get_or_append_left, get_or_push}
use Rattle.fku_types.proofs.ListLaws.{take_next}

-- what is put for each item, one after the other
pub put_next : {X Y : Type 0} (t : X → List Y) (xs : List X) (i : ℕ) (x : X) (start was now : List Y) → i < length xs
    → x ≡ get_or xs i x → was ≡ start ++ flat_map t (take i xs) → now ≡ was ++ t x
    → now ≡ start ++ flat_map t (take (i + 1) xs)
put_next t xs i x start was now lt is so e = grind (arith, common_steps)

pub put_all : {X Y : Type 0} (t : X → List Y) (xs : List X) (i : ℕ) (start was : List Y) → length xs ≤ i
    → was ≡ start ++ flat_map t (take i xs) → was ≡ start ++ flat_map t xs
put_all {X = X} t xs i start was le so = so ∙ ap (λ (ys : List X). start ++ flat_map t ys) (take_all i xs le)

-- the images of the items
pub mapped_next : {X Y : Type 0} (f : X → Y) (xs : List X) (i : ℕ) (d : X) (y : Y) (was now : List Y) → i < length xs
    → was ≡ map f (take i xs) → y ≡ f (get_or xs i d) → now ≡ was ++ y ∷ [] → now ≡ map f (take (i + 1) xs)
mapped_next {Y = Y} f xs i d y was now lt so here e =
    e ∙ ap₂ (λ (ys : List Y) (z : Y). ys ++ z ∷ []) so here
    ∙ sym (ap (map f) (take_more xs i d lt) ∙ map-append f (take i xs) (get_or xs i d ∷ []))

pub mapped_all : {X Y : Type 0} (f : X → Y) (xs : List X) (i : ℕ) (was : List Y) → length xs ≤ i
    → was ≡ map f (take i xs) → was ≡ map f xs
mapped_all f xs i was le so = so ∙ ap (map f) (take_all i xs le)

-- copies, whose view is that of the items
pub copied_next : {X Y : Type 0} (f : X → Y) (xs : List X) (i : ℕ) (x y : X) (was now : List X) → i < length xs
    → x ≡ get_or xs i x → map f was ≡ map f (take i xs) → f y ≡ f x → now ≡ was ++ (y ∷ [])
    → map f now ≡ map f (take (i + 1) xs)
copied_next f xs i x y was now lt is so same e = grind (arith, common_steps)

pub copied_all : {X Y : Type 0} (f : X → Y) (xs : List X) (i : ℕ) (was : List X) → length xs ≤ i
    → map f was ≡ map f (take i xs) → map f was ≡ map f xs
copied_all f xs i was le so = grind (arith, common_steps)

-- the view of the new items is an image of the view of the old ones
pub image_next : {X Y Z W : Type 0} (p : Y → W) (q : X → Z) (f : Z → W) (xs : List X) (i : ℕ) (x : X) (y : Y)
    (was now : List Y) → i < length xs → x ≡ get_or xs i x → map p was ≡ map f (map q (take i xs)) → p y ≡ f (q x)
    → now ≡ was ++ y ∷ []
    → map p now ≡ map f (map q (take (i + 1) xs))
image_next {X = X} {W = W} p q f xs i x y was now lt is so here e =
    ap (map p) e ∙ map-append p was (y ∷ []) ∙ ap₂ (λ (ws : List W) (w : W). ws ++ w ∷ []) so here
    ∙ sym (ap (λ (ys : List X). map f (map q ys)) (take_next xs i x lt is)
    ∙ ap (map f) (map-append q (take i xs) (x ∷ [])) ∙ map-append f (map q (take i xs)) (q x ∷ []))

pub image_all : {X Y Z W : Type 0} (p : Y → W) (q : X → Z) (f : Z → W) (xs : List X) (i : ℕ) (was : List Y)
    → length xs ≤ i → map p was ≡ map f (map q (take i xs)) → map p was ≡ map f (map q xs)
image_all {X = X} p q f xs i was le so = so ∙ ap (λ (ys : List X). map f (map q ys)) (take_all i xs le)

-- what holds of each item at its place holds with one more item, of which it holds
pub each_next : {X : Type 0} (P : ℕ → X → Type 0) (d : X) (was now : List X) (i : ℕ) (x : X) → now ≡ was ++ x ∷ []
    → length was ≡ i → ((k : ℕ) → k < i → P k (get_or was k d)) → P i x → (k : ℕ) → k < i + 1 → P k (get_or now k d)
each_next {X = X} P d was now i x e n before here k lt =
    let read : (j : ℕ) → get_or now j d ≡ get_or (was ++ x ∷ []) j d = λ j. ap (λ (ys : List X). get_or ys j d) e in
    elim (cases_lt k i) [
      | inl less ↦ subst (P k) (sym (read k ∙ get_or_append_left was (x ∷ []) d k (omega (arith, less, n))))
          (before k less)
      | inr ge ↦ (let same : i ≡ k = omega (arith, lt, ge) in
          subst (λ (j : ℕ). P j (get_or now j d)) same (subst (P i) (sym (read i ∙ get_or_push was x d i n)) here))
    ]
