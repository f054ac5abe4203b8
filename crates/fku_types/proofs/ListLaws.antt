-- Laws on lists: what holds of each item as a recursion, a list at one of its places, and one more item.
use Rattle.std.proofs.Common.{◌≡◌, ℕ, zero, suc, ◌+◌, ◌<◌, ◌≤◌, ◌||◌, Bool, cond, List, [], ◌∷◌, ◌++◌, length, map, get_or, set, take, drop, remove, get_or-set_other, get_or-set_same, refl, sym, ap, ap₂, ◌∙◌, subst, add-one, drop-cons, inl, inr, arith, All}
use Rattle.std.specs.Prelude.{count_by}
use Rattle.std.specs.List.{range_with_len, list_any, flat_map, filter, AllByRecursion}
use Rattle.std.proofs.lemmas.Bool.{cases_lt}
use Rattle.std.proofs.lemmas.List.{take_more, take-append-drop, map-append}
use Rattle.std.proofs.lemmas.List.Sums.{sum_by-cons}
use Rattle.std.proofs.lemmas.List.Elements.{All-push, All-filter, All-from_recursion, recursion_from_All}

-- ---- what holds of each item
pub all_join : {X : Type 0} (P : X → Type 0) (xs ys : List X) → AllByRecursion P xs → AllByRecursion P ys
    → AllByRecursion P (xs ++ ys)
all_join P [] ys a b = b
all_join P (x ∷ xs) ys a b = (a.0, all_join P xs ys a.1 b)

pub all_push : {X : Type 0} (P : X → Type 0) (xs : List X) (x : X) → AllByRecursion P xs → P x
    → AllByRecursion P (xs ++ x ∷ [])
all_push P xs x a b = all_join P xs (x ∷ []) a (b, tt)

pub all_front : {X : Type 0} (P : X → Type 0) (xs ys : List X) → AllByRecursion P (xs ++ ys) → AllByRecursion P xs
all_front P [] ys h = tt
all_front P (x ∷ xs) ys h = (h.0, all_front P xs ys h.1)

pub all_rest : {X : Type 0} (P : X → Type 0) (xs ys : List X) → AllByRecursion P (xs ++ ys) → AllByRecursion P ys
all_rest P [] ys h = h
all_rest P (x ∷ xs) ys h = all_rest P xs ys h.1

pub all_amid : {X : Type 0} (P : X → Type 0) (xs : List X) (y : X) (ys : List X) → AllByRecursion P (xs ++ y ∷ ys) → P y
all_amid P xs y ys h = (all_rest P xs (y ∷ ys) h).0

pub all_weaker : {X : Type 0} (P Q : X → Type 0) (xs : List X) → ((x : X) → P x → Q x) → AllByRecursion P xs
    → AllByRecursion Q xs
all_weaker P Q [] f h = tt
all_weaker P Q (x ∷ xs) f h = (f x h.0, all_weaker P Q xs f h.1)

pub all_map : {X Y : Type 0} (P : Y → Type 0) (g : X → Y) (xs : List X) → AllByRecursion (λ x. P (g x)) xs
    → AllByRecursion P (map g xs)
all_map P g [] h = tt
all_map P g (x ∷ xs) h = (h.0, all_map P g xs h.1)

pub all_unmap : {X Y : Type 0} (P : Y → Type 0) (g : X → Y) (xs : List X) → AllByRecursion P (map g xs)
    → AllByRecursion (λ x. P (g x)) xs
all_unmap P g [] h = tt
all_unmap P g (x ∷ xs) h = (h.0, all_unmap P g xs h.1)

pub all_flat : {X Y : Type 0} (P : Y → Type 0) (g : X → List Y) (xs : List X)
    → AllByRecursion (λ x. AllByRecursion P (g x)) xs → AllByRecursion P (flat_map g xs)
all_flat P g [] h = tt
all_flat P g (x ∷ xs) h = all_join P (g x) (flat_map g xs) h.0 (all_flat P g xs h.1)

pub all_filter : {X : Type 0} (P : X → Type 0) (p : X → Bool) (xs : List X) → AllByRecursion P xs
    → AllByRecursion P (filter p xs)
all_filter P p xs h = recursion_from_All P (filter p xs) (All-filter p P xs (All-from_recursion P xs h))

pub all_pushed : {A : Type 0} (P : A → Type 0) (old new : List A) (y : A) → new ≡ old ++ y ∷ [] → All P old → P y
    → All P new
all_pushed {A = A} P old new y more before here =
    subst (λ (ys : List A). All P ys) (sym more) (All-push P old y before here)

-- ---- a list at one of its places
pub drop_next : {X : Type 0} (xs : List X) (i : ℕ) (x : X) → i < length xs → x ≡ get_or xs i x
    → drop i xs ≡ x ∷ drop (i + 1) xs
drop_next {X = X} xs i x l e = drop-cons xs i x l ∙ ap₂ (λ (y : X) (n : ℕ). y ∷ drop n xs) (sym e) (sym (add-one i))

pub take_next : {X : Type 0} (xs : List X) (i : ℕ) (x : X) → i < length xs → x ≡ get_or xs i x
    → take (i + 1) xs ≡ take i xs ++ x ∷ []
take_next {X = X} xs i x l e = take_more xs i x l ∙ ap (λ (y : X). take i xs ++ y ∷ []) (sym e)

pub split_at : {X : Type 0} (xs : List X) (i : ℕ) (x : X) → i < length xs → x ≡ get_or xs i x
    → xs ≡ take i xs ++ x ∷ drop (i + 1) xs
split_at {X = X} xs i x l e = sym (take-append-drop i xs) ∙ ap (λ (ys : List X). take i xs ++ ys) (drop_next xs i x l e)

-- ---- a list that is written at one place
-- what holds of the items before a place, and of the item written there, holds of the items before the next place
pub set_more : {X : Type 0} (P : ℕ → X → Type 0) (d : X) (xs : List X) (c : ℕ) (x : X) → c < length xs
    → ((k : ℕ) → k < c → P k (get_or xs k d)) → P c x → (k : ℕ) → k < c + 1 → P k (get_or (set xs c x) k d)
set_more P d xs c x lt h here k below =
    elim (cases_lt k c) [
      | inl less ↦ subst (P k) (sym (get_or-set_other xs c k x d (omega arith))) (h k less)
      | inr ge ↦ (let e : c ≡ k = omega arith in
          subst (λ (l : ℕ). P l (get_or (set xs c x) l d)) e (subst (P c) (sym (get_or-set_same xs c x d lt)) here))
    ]

-- items that are not written yet stay
pub set_rest : {X : Type 0} (P : ℕ → X → Type 0) (d : X) (xs : List X) (c : ℕ) (x : X)
    → ((k : ℕ) → c ≤ k → P k (get_or xs k d)) → (k : ℕ) → c + 1 ≤ k → P k (get_or (set xs c x) k d)
set_rest P d xs c x h k le = subst (P k) (sym (get_or-set_other xs c k x d (omega arith))) (h k (omega arith))

-- ---- images
pub map_remove : {X Y : Type 0} (g : X → Y) (xs : List X) (t : ℕ) → map g (remove xs t) ≡ remove (map g xs) t
map_remove g [] zero = refl
map_remove g [] (suc t) = refl
map_remove g (x ∷ xs) zero = refl
map_remove {Y = Y} g (x ∷ xs) (suc t) = ap (λ (ys : List Y). g x ∷ ys) (map_remove g xs t)

pub any_map : {X Y : Type 0} (f : X → Y) (p : Y → Bool) (xs : List X)
    → list_any p (map f xs) ≡ list_any (λ x. p (f x)) xs
any_map f p [] = refl
any_map f p (x ∷ xs) = ap (λ (b : Bool). p (f x) || b) (any_map f p xs)

-- a list that is copied, with one more item
pub copied : {A X B : Type 0} (view : A → B) (h : X → B) (old new : List A) (y : A) (xs : List X) (i : ℕ) (x : X)
    → i < length xs → x ≡ get_or xs i x → new ≡ old ++ y ∷ []
    → map view old ≡ map h (take i xs) → view y ≡ h x → map view new ≡ map h (take (i + 1) xs)
copied {X = X} {B = B} view h old new y xs i x l e more before here =
    ap (map view) more ∙ map-append view old (y ∷ []) ∙ ap₂ (λ (bs : List B) (b : B). bs ++ b ∷ []) before here
    ∙ sym (ap (map h) (take_next xs i x l e) ∙ map-append h (take i xs) (x ∷ []))

-- ---- successive numbers
pub range_next : (a n : ℕ) → range_with_len a (suc n) ≡ range_with_len a n ++ (a + n) ∷ []
range_next a zero = ap (λ (k : ℕ). k ∷ []) (let e : a ≡ a + zero = omega arith in e)
range_next a (suc n) = ap (λ (l : List ℕ). a ∷ l)
    (range_next (a + 1) n ∙ ap (λ (k : ℕ). range_with_len (a + 1) n ++ k ∷ [])
    (let e : a + 1 + n ≡ a + suc n = omega arith in e))

pub range_more : (n : ℕ) → range_with_len 0 (n + 1) ≡ range_with_len 0 n ++ n ∷ []
range_more n = ap (range_with_len 0) (add-one n) ∙ range_next 0 n
    ∙ ap (λ (k : ℕ). range_with_len 0 n ++ k ∷ []) (let e : 0 + n ≡ n = omega arith in e)

pub range_below : (n a m : ℕ) → a + m ≤ n → AllByRecursion (λ k. k < n) (range_with_len a m)
range_below n a zero le = tt
range_below n a (suc m) le = (omega arith, range_below n (a + 1) m (omega arith))

pub count-cons : {X : Type 0} (p : X → Bool) (x : X) (xs : List X)
    → count_by p (x ∷ xs) ≡ cond (p x) 1 0 + count_by p xs
count-cons {X = X} p x xs = sum_by-cons (λ (y : X). cond (p y) 1 0) x xs
