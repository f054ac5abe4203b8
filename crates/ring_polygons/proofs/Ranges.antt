-- Tests over the numbers of a range.
use Rattle.std.proofs.Common.{◌≡◌, ◌⊎◌, ℕ, zero, suc, ◌+◌, ◌<◌, ◌≤◌, inl, inr, Bool, true, false, find, Option, Some, None, refl, sym, ap, ◌∙◌, arith}
use Rattle.std.specs.List.{list_all, range_with_len}
use Rattle.std.proofs.lemmas.Bool.{cases_eq, cases_Bool, and_from, and_left, and_right, cond-true, cond-false}

-- all pass
pub all_pass : (test : ℕ → Bool) (a n : ℕ) → ((k : ℕ) → a ≤ k → k < a + n → test k ≡ true)
    → list_all test (range_with_len a n) ≡ true
all_pass test a zero h = refl
all_pass test a (suc n) h = and_from (test a) (list_all test (range_with_len (a + 1) n))
    (h a (omega arith) (omega arith)) (all_pass test (a + 1) n (λ k l r. h k (omega arith) (omega arith)))

-- one fails
pub one_fails : (test : ℕ → Bool) (a n k : ℕ) → a ≤ k → k < a + n → test k ≡ false
    → list_all test (range_with_len a n) ≡ false
one_fails test a zero k l r h = absurd (omega arith)
one_fails test a (suc n) k l r h =
    elim (cases_eq k a) [
      | inl e ↦ and_left (test a) (list_all test (range_with_len (a + 1) n)) (ap test (sym e) ∙ h)
      | inr ne ↦ and_right (test a) (list_all test (range_with_len (a + 1) n))
          (one_fails test (a + 1) n k (omega (arith, ne)) (omega arith) h)
    ]

-- the first that passes
pub first_found : (test : ℕ → Bool) (a n k : ℕ) → a ≤ k → k < a + n → ((i : ℕ) → a ≤ i → i < k → test i ≡ false)
    → test k ≡ true → find test (range_with_len a n) ≡ Some k
first_found test a zero k l r h t = absurd (omega arith)
first_found test a (suc n) k l r h t =
    elim (cases_eq k a) [
      | inl e ↦ cond-true {A = Option ℕ} (test a) (Some a) (find test (range_with_len (a + 1) n)) (ap test (sym e) ∙ t)
          ∙ ap (λ (i : ℕ). Some i) (sym e)
      | inr ne ↦ cond-false {A = Option ℕ} (test a) (Some a) (find test (range_with_len (a + 1) n))
          (h a (omega arith) (omega (arith, ne)))
          ∙ first_found test (a + 1) n k (omega (arith, ne)) (omega arith) (λ i p q. h i (omega arith) q) t
    ]

-- none passes
pub none_found : (test : ℕ → Bool) (a n : ℕ) → ((i : ℕ) → a ≤ i → i < a + n → test i ≡ false)
    → find test (range_with_len a n) ≡ None
none_found test a zero h = refl
none_found test a (suc n) h =
    cond-false {A = Option ℕ} (test a) (Some a) (find test (range_with_len (a + 1) n)) (h a (omega arith) (omega arith))
    ∙ none_found test (a + 1) n (λ i p q. h i (omega arith) (omega arith))

-- all pass, and so each
pub one_passes : (test : ℕ → Bool) (a n k : ℕ) → a ≤ k → k < a + n → list_all test (range_with_len a n) ≡ true
    → test k ≡ true
one_passes test a n k l r h =
    elim (cases_Bool (test k)) [
      | inl t ↦ t
      | inr f ↦ absurd (let e : true ≡ false = sym h ∙ one_fails test a n k l r f in cc)
    ]

-- the first number of a range that passes
pub record First (test : ℕ → Bool) (a n : ℕ) : Type 0 where
  pub place : ℕ
  pub after : a ≤ place
  pub below : place < a + n
  pub passes : test place ≡ true
  pub earlier : (k : ℕ) → a ≤ k → k < place → test k ≡ false

pub first_or_none : (test : ℕ → Bool) (a n : ℕ) → First test a n ⊎ ((k : ℕ) → a ≤ k → k < a + n → test k ≡ false)
first_or_none test a zero = inr (λ k l r. absurd (omega arith))
first_or_none test a (suc n) = at (cases_Bool (test a)) (first_or_none test (a + 1) n)
  where
    at : (test a ≡ true) ⊎ (test a ≡ false) → First test (a + 1) n
        ⊎ ((k : ℕ) → a + 1 ≤ k → k < a + 1 + n → test k ≡ false) → First test a (suc n)
        ⊎ ((k : ℕ) → a ≤ k → k < a + suc n → test k ≡ false)
    at (inl t) rest = inl (record {
      place = a;
      after = omega arith;
      below = omega arith;
      passes = t;
      earlier =
          λ k l r. absurd (omega arith);
    })
    at (inr f) (inl rest) = inl (record {
      place = rest.place;
      after = omega (arith, rest.after);
      below = omega (arith, rest.below);
      passes = rest.passes;
      earlier = λ k l r. elim (cases_eq k a) [ inl e ↦ ap test e ∙ f | inr ne ↦ rest.earlier k (omega (arith, ne)) r ];
    })
    at (inr f) (inr none) = inr (λ k l r.
        elim (cases_eq k a) [ inl e ↦ ap test e ∙ f | inr ne ↦ none k (omega (arith, ne)) (omega arith) ])
