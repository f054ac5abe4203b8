-- The places of marks.
use Rattle.std.proofs.Common.{◌≡◌, ◌⊎◌, inl, inr, ℕ, zero, suc, ◌+◌, ◌<◌, ◌≤◌, ◌==◌, Bool, true, false, cond, List, [], ◌∷◌, ◌++◌, filter, refl, sym, ap, ◌∙◌, arith, eqb-true, eq-eqb}
use Rattle.std.specs.List.{range_with_len, AllByRecursion}
use Rattle.std.proofs.lemmas.Bool.{or_cases, or_left, or_right, cases_eq, both_ways}
use Rattle.std.proofs.lemmas.List.{append-nil}
use Rattle.std.proofs.lemmas.List.Elements.{filter-append}
use Rattle.correspondence.specs.Places.{has}
use Rattle.correspondence.specs.Components.{IsRising}
use Rattle.fku_types.proofs.ListLaws.{range_more}

pub filter_yes : (p : ℕ → Bool) (n : ℕ) (xs after : List ℕ) → p n ≡ true → xs ≡ filter p (range_with_len 0 n)
    → after ≡ xs ++ n ∷ [] → after ≡ filter p (range_with_len 0 (n + 1))
filter_yes p n xs after t e f =
    f ∙ ap (λ (l : List ℕ). l ++ n ∷ []) e
    ∙ sym (ap (filter p) (range_more n) ∙ filter-append p (range_with_len 0 n) (n ∷ [])
    ∙ ap (λ (b : Bool). filter p (range_with_len 0 n) ++ cond b (n ∷ []) []) t)

pub filter_no : (p : ℕ → Bool) (n : ℕ) (xs : List ℕ) → p n ≡ false → xs ≡ filter p (range_with_len 0 n)
    → xs ≡ filter p (range_with_len 0 (n + 1))
filter_no p n xs t e =
    e ∙ sym (ap (filter p) (range_more n) ∙ filter-append p (range_with_len 0 n) (n ∷ [])
    ∙ ap (λ (b : Bool). filter p (range_with_len 0 n) ++ cond b (n ∷ []) []) t
    ∙ append-nil (filter p (range_with_len 0 n)))

-- the numbers of a range that pass a test
has_cond : (k a : ℕ) (b : Bool) (xs : List ℕ) → has k (cond b (a ∷ xs) xs) ≡ true → ((a ≡ k) × (b ≡ true))
    ⊎ (has k xs ≡ true)
has_cond k a true xs h = elim (or_cases (a == k) (has k xs) h) [ inl e ↦ inl (eqb-true a k e, refl) | inr r ↦ inr r ]
has_cond k a false xs h = inr h

cond_has : (k a : ℕ) (b : Bool) (xs : List ℕ) → (has k xs ≡ true) → has k (cond b (a ∷ xs) xs) ≡ true
cond_has k a true xs h = or_right (a == k) (has k xs) h
cond_has k a false xs h = h

pub has_filter : (p : ℕ → Bool) (a n k : ℕ) → has k (filter p (range_with_len a n)) ≡ true → (a ≤ k) × (k < a + n)
    × (p k ≡ true)
has_filter p a zero k h = absurd (both_ways false refl h)
has_filter p a (suc n) k h = elim (has_cond k a (p a) (filter p (range_with_len (a + 1) n)) h) [
  | inl e ↦ (omega (arith, e.0), omega (arith, e.0), ap p (sym e.0) ∙ e.1)
  | inr r ↦ (let f = has_filter p (a + 1) n k r in (omega (arith, f.0), omega (arith, f.1), f.2))
]

pub filter_has : (p : ℕ → Bool) (a n k : ℕ) → a ≤ k → k < a + n → p k ≡ true
    → has k (filter p (range_with_len a n)) ≡ true
filter_has p a zero k l g h = absurd (omega arith)
filter_has p a (suc n) k l g h = elim (cases_eq a k) [
  | inl e ↦ ap (λ (b : Bool). has k (cond b (a ∷ filter p (range_with_len (a + 1) n))
      (filter p (range_with_len (a + 1) n)))) (ap p e ∙ h)
      ∙ or_left (a == k) (has k (filter p (range_with_len (a + 1) n))) (eq-eqb a k e)
  | inr ne ↦ cond_has k a (p a) (filter p (range_with_len (a + 1) n))
      (filter_has p (a + 1) n k (omega (arith, ne)) (omega arith) h)
]

all_cond : (P : ℕ → Type 0) (a : ℕ) (b : Bool) (xs : List ℕ) → P a → AllByRecursion P xs
    → AllByRecursion P (cond b (a ∷ xs) xs)
all_cond P a true xs h k = (h, k)
all_cond P a false xs h k = k

pub all_filter : (P : ℕ → Type 0) (p : ℕ → Bool) (a n : ℕ) → ((k : ℕ) → a ≤ k → k < a + n → P k)
    → AllByRecursion P (filter p (range_with_len a n))
all_filter P p a zero h = tt
all_filter P p a (suc n) h = all_cond P a (p a) (filter p (range_with_len (a + 1) n)) (h a (omega arith) (omega arith))
    (all_filter P p (a + 1) n (λ k l g. h k (omega arith) (omega arith)))

rising_cond : (a : ℕ) (b : Bool) (xs : List ℕ) → AllByRecursion (λ m. a < m) xs → IsRising xs
    → IsRising (cond b (a ∷ xs) xs)
rising_cond a true xs h k = (h, k)
rising_cond a false xs h k = k

pub filter_rises : (p : ℕ → Bool) (a n : ℕ) → IsRising (filter p (range_with_len a n))
filter_rises p a zero = tt
filter_rises p a (suc n) = rising_cond a (p a) (filter p (range_with_len (a + 1) n))
    (all_filter (λ m. a < m) p (a + 1) n (λ k l g. omega arith)) (filter_rises p (a + 1) n)
