-- Two lists of numbers are equal after a sort if each number is in both equally often.
use Rattle.std.proofs.Common.{◌≡◌, ◌⊎◌, inl, inr, ℕ, suc, ◌+◌, ◌<◌, ◌≤◌, ◌==◌, Bool, true, cond, List, [], ◌∷◌, length, get_or, refl, sym, ap, ap₂, ◌∙◌, arith, eqb, eq-eqb}
use Rattle.std.specs.List.Sorted.{IsPermutation, IsSorted, IsNonDecreasing}
use Rattle.std.specs.Ordering.{nat_cmp}
use Rattle.std.specs.Cmp.Lexicographic.{pointwise}
use Rattle.std.proofs.lemmas.List.Sums.{sum_by-cons}
use Rattle.std.proofs.lemmas.List.Sorted.{sum_by-IsPermutation, IsNonDecreasingBy-from_sort, IsNonDecreasingBy-drop}
use Rattle.std.proofs.lemmas.Bool.{ne_eqb, and_from, cases_lt}
use Rattle.triangle_meshes.specs.Keys.{times}

count_first : (x : ℕ) (xs : List ℕ) → times x (x ∷ xs) ≡ 1 + times x xs
count_first x xs = sum_by-cons (λ (n : ℕ). cond (n == x) 1 0) x xs
    ∙ ap (λ (b : Bool). cond b 1 0 + times x xs) (eq-eqb x x refl)

-- a number below all of a list is not in it
count_none : (k : ℕ) (xs : List ℕ) → ((i : ℕ) → i < length xs → k < get_or xs i 0) → times k xs ≡ 0
count_none k [] h = refl
count_none k (x ∷ xs) h =
    let l : k < x = h 0 (omega arith) in
    sum_by-cons (λ (n : ℕ). cond (n == k) 1 0) x xs
    ∙ ap₂ (λ (b : Bool) (m : ℕ). cond b 1 0 + m) (ne_eqb x k (λ e. absurd (omega (arith, e))))
    (count_none k xs (λ i m. h (suc i) (omega arith)))

count_tail : (k x : ℕ) (xs ys : List ℕ) → times k (x ∷ xs) ≡ times k (x ∷ ys) → times k xs ≡ times k ys
count_tail k x xs ys e = omega (
  arith,
  e,
  sum_by-cons (λ (n : ℕ). cond (n == k) 1 0) x xs,
  sum_by-cons (λ (n : ℕ). cond (n == k) 1 0) x ys,
)

-- the first of a list in order is at most each of it
first_least : (k x : ℕ) (xs : List ℕ) → IsNonDecreasing (x ∷ xs) → k < x → times k (x ∷ xs) ≡ 0
first_least k x xs s l = count_none k (x ∷ xs)
    (λ i m. (let f : x ≤ get_or (x ∷ xs) i 0 = s 0 i 0 (omega arith) m in omega arith))

same_in_order : (xs ys : List ℕ) → IsNonDecreasing xs → IsNonDecreasing ys → ((k : ℕ) → times k xs ≡ times k ys)
    → xs ≡ ys
same_in_order [] [] s t h = refl
same_in_order [] (y ∷ ys) s t h = absurd (let e : 0 ≡ times y (y ∷ ys) = h y in omega (arith, e, count_first y ys))
same_in_order (x ∷ xs) [] s t h = absurd (let e : times x (x ∷ xs) ≡ 0 = h x in omega (arith, e, count_first x xs))
same_in_order (x ∷ xs) (y ∷ ys) s t h =
    let e : x ≡ y = first (cases_lt x y) (cases_lt y x) in
    ap₂ (λ (n : ℕ) (ns : List ℕ). n ∷ ns) e
    (same_in_order xs ys (IsNonDecreasingBy-drop (λ (n : ℕ). n) 1 (x ∷ xs) s)
    (IsNonDecreasingBy-drop (λ (n : ℕ). n) 1 (y ∷ ys) t)
    (λ k. count_tail k y xs ys (ap (λ (n : ℕ). times k (n ∷ xs)) (sym e) ∙ h k)))
  where
    first : (x < y) ⊎ (y ≤ x) → (y < x) ⊎ (x ≤ y) → x ≡ y
    first (inl l) m = absurd (omega (arith, h x, count_first x xs, first_least x y ys t l))
    first (inr l) (inl m) = absurd (omega (arith, h y, count_first y ys, first_least y x xs s m))
    first (inr l) (inr m) = omega arith

pub same_sorted : (xs ys vs ws : List ℕ) → IsPermutation xs vs → IsSorted nat_cmp vs → IsPermutation ys ws
    → IsSorted nat_cmp ws → ((k : ℕ) → times k xs ≡ times k ys) → vs ≡ ws
same_sorted xs ys vs ws p s q t h =
    same_in_order vs ws (IsNonDecreasingBy-from_sort (λ (n : ℕ). n) vs s)
    (IsNonDecreasingBy-from_sort (λ (n : ℕ). n) ws t)
    (λ k. sum_by-IsPermutation (λ (n : ℕ). cond (n == k) 1 0) xs vs p ∙ h k
    ∙ sym (sum_by-IsPermutation (λ (n : ℕ). cond (n == k) 1 0) ys ws q))

pub sorted_counts : (xs ys vs ws : List ℕ) → IsPermutation xs vs → IsPermutation ys ws → vs ≡ ws → (k : ℕ)
    → times k xs ≡ times k ys
sorted_counts xs ys vs ws p q e k =
    sym (sum_by-IsPermutation (λ (n : ℕ). cond (n == k) 1 0) xs vs p) ∙ ap (times k) e
    ∙ sum_by-IsPermutation (λ (n : ℕ). cond (n == k) 1 0) ys ws q

pub pointwise_same : (xs : List ℕ) → pointwise eqb xs xs ≡ true
pointwise_same [] = refl
pointwise_same (x ∷ xs) = and_from (x == x) (pointwise eqb xs xs) (eq-eqb x x refl) (pointwise_same xs)
