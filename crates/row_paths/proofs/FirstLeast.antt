-- The place that `position_min` finds is the first of the least numbers.
use Rattle.std.proofs.Common.{◌≡◌, ℕ, ◌+◌, ◌<◌, ◌≤◌, Bool, true, false, List, [], ◌∷◌, ◌++◌, length, get_or, fold, Some, refl, sym, ap, ◌∙◌, arith, ◌⊎◌, inl, inr, append_assoc, append-nil}
use Rattle.std.proofs.lemmas.Bool.{cases_lt}
use Rattle.std.proofs.lemmas.Bool.Decides.{nat_tests}
use Rattle.std.proofs.lemmas.List.{get_or_append_left, get_or_push, length_push}
use Rattle.std.proofs.lemmas.Map.Keys.{ge_from_not_lt}
use Rattle.std.specs.Ordering.{is_lt, nat_cmp}
use Rattle.itertools.specs.Extremes.{by_cmp, wins, place_step, position_of}
use Rattle.row_paths.specs.Turns.{IsFirstLeast}

abbrev takes : ℕ → ℕ → Bool
takes = wins false (by_cmp nat_cmp)

lt_from_less : (x y : ℕ) → is_lt (nat_cmp x y) ≡ true → x < y
lt_from_less x y e = by (cases_lt x y)
  where
    by : (x < y) ⊎ (y ≤ x) → x < y
    by (inl lt) = lt
    by (inr ge) = grind (arith, nat_tests)

-- the place and the number of the first least of the numbers seen so far, and how many were seen
record IsBest (seen : List ℕ) (s : ℕ × ℕ × ℕ) : Type 0 where
  count : s.2 ≡ length seen
  within : s.0 < length seen
  value : get_or seen s.0 0 ≡ s.1
  least : (k : ℕ) → k < length seen → s.1 ≤ get_or seen k 0
  first : (k : ℕ) → k < s.0 → s.1 < get_or seen k 0

best_of_all : (xs : List ℕ) (s : ℕ × ℕ × ℕ) → IsBest xs s → IsFirstLeast xs s.0
best_of_all xs s b = record {
  within = b.within;
  least = λ k lt. omega (arith, b.value, b.least k lt);
  first = λ k lt. omega (arith, b.value, b.first k lt);
}

-- one more number, which is smaller or not
best_moves : (seen : List ℕ) (s : ℕ × ℕ × ℕ) (x : ℕ) → IsBest seen s → x < s.1
    → IsBest (seen ++ x ∷ []) (s.2, x, s.2 + 1)
best_moves seen s x b lt = record {
  count = omega (arith, length_push seen x, b.count);
  within = omega (arith, length_push seen x, b.count);
  value = get_or_push seen x 0 s.2 (sym b.count);
  least = λ k le. at k (cases_lt k (length seen)) le;
  first = λ k le. omega (
    arith,
    b.least k (omega (arith, b.count, le)),
    get_or_append_left seen (x ∷ []) 0 k (omega (arith, b.count, le)),
  );
}
  where
    at : (k : ℕ) → (k < length seen) ⊎ (length seen ≤ k) → k < length (seen ++ x ∷ []) → x ≤ get_or (seen ++ x ∷ []) k 0
    at k (inl lt') le = omega (arith, b.least k lt', get_or_append_left seen (x ∷ []) 0 k lt')
    at k (inr ge) le = let d : length seen ≡ k = omega (arith, length_push seen x) in
        omega (arith, get_or_push seen x 0 k d)

best_stays : (seen : List ℕ) (s : ℕ × ℕ × ℕ) (x : ℕ) → IsBest seen s → s.1 ≤ x
    → IsBest (seen ++ x ∷ []) (s.0, s.1, s.2 + 1)
best_stays seen s x b ge = record {
  count = omega (arith, length_push seen x, b.count);
  within = omega (arith, length_push seen x, b.within);
  value = get_or_append_left seen (x ∷ []) 0 s.0 b.within ∙ b.value;
  least = λ k le. at k (cases_lt k (length seen)) le;
  first = λ k le. omega (arith, b.first k le, get_or_append_left seen (x ∷ []) 0 k (omega (arith, b.within, le)));
}
  where
    at : (k : ℕ) → (k < length seen) ⊎ (length seen ≤ k) → k < length (seen ++ x ∷ [])
        → s.1 ≤ get_or (seen ++ x ∷ []) k 0
    at k (inl lt') le = omega (arith, b.least k lt', get_or_append_left seen (x ∷ []) 0 k lt')
    at k (inr ge') le = let d : length seen ≡ k = omega (arith, length_push seen x) in
        omega (arith, ge, get_or_push seen x 0 k d)

best_after : (rest seen : List ℕ) (s : ℕ × ℕ × ℕ) → IsBest seen s
    → IsFirstLeast (seen ++ rest) (fold (place_step takes) s rest).0
best_after [] seen s b = rw (append-nil seen) (best_of_all seen s b)
best_after (x ∷ rest) seen s b = by (takes x s.1) refl (best_after rest)
  where
    by : (v : Bool) → takes x s.1 ≡ v → ((seen' : List ℕ) (q : ℕ × ℕ × ℕ) → IsBest seen' q
        → IsFirstLeast (seen' ++ rest) (fold (place_step takes) q rest).0)
        → IsFirstLeast (seen ++ x ∷ rest) (fold (place_step takes) s (x ∷ rest)).0
    by true e more = rw (fold, e) (rw (append_assoc seen (x ∷ []) rest) at
        (more (seen ++ x ∷ []) (s.2, x, s.2 + 1) (best_moves seen s x b (lt_from_less x s.1 e))))
    by false e more = rw (fold, e) (rw (append_assoc seen (x ∷ []) rest) at
        (more (seen ++ x ∷ []) (s.0, s.1, s.2 + 1) (best_stays seen s x b (ge_from_not_lt x s.1 e))))

one_is_best : (x : ℕ) → IsBest (x ∷ []) (0, x, 1)
one_is_best x = record {
  count = refl;
  within = omega arith;
  value = refl;
  least = λ k lt. (let z : 0 ≡ k = omega arith in omega (arith, ap (λ (i : ℕ). get_or (x ∷ []) i 0) z));
  first = λ k lt. absurd (omega arith);
}

pub first_place : (xs : List ℕ) → 0 < length xs → (i : ℕ) × (position_of takes xs ≡ Some i) × IsFirstLeast xs i
first_place [] some = absurd (omega arith)
first_place (x ∷ xs) some = (
  (fold (place_step takes) (0, x, 1) xs).0,
  refl,
  best_after xs (x ∷ []) (0, x, 1) (one_is_best x),
)
