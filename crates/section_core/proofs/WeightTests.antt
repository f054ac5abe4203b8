-- What the test of the weights of a mix shows.
use Rattle.std.proofs.Common.{◌≡◌, ℕ, zero, suc, ◌+◌, ◌<◌, ◌≤◌, Bool, true, false, not, ◌&&◌, ℤ, pos, negsuc, ◌≤ℤ◌, refl, ap, sym, ◌∙◌, arith}
use Rattle.std.specs.Prelude.{int_le}
use Rattle.std.specs.List.{AllByRecursion}
use Rattle.std.proofs.lemmas.Int.{ints}
use Rattle.std.proofs.lemmas.Bool.{and_parts, and_from, false≢true, not-true}
use Rattle.std.specs.Ordering.{int_eq}
use Rattle.std.proofs.lemmas.Bool.Decides.{Decides-int_eq}
use Rattle.section_core.specs.Parts.{CostParts, span, area, mix}
use Rattle.section_core.specs.Laws.{AreWeights, IsMix, weights}
use Rattle.section_core.specs.Steps.{is_weight, are_weights, is_weighted}
use Rattle.section_core.proofs.ItemTests.{le_test}
use Rattle.fku_types.proofs.TruthLaws.{int_le_is}

-- the weights of a mix, by their bounds
weight_is : (a : ℕ) → is_weight (pos a) ≡ true → a ≤ 1000
weight_is a e = let p = and_parts (int_le (pos 0) (pos a)) (int_le (pos a) (pos 1000)) e in let k : pos a ≤ℤ pos 1000 =
    int_le_is _ _ p.1 in omega (arith, ints)

weight_test : (a : ℕ) → a ≤ 1000 → is_weight (pos a) ≡ true
weight_test a h = and_from (int_le (pos 0) (pos a)) (int_le (pos a) (pos 1000))
    (le_test (pos 0) (pos a) (omega (arith, ints))) (le_test (pos a) (pos 1000) (omega (arith, ints, h)))

both_zero : (a b : ℕ) → (int_eq (pos a) (pos 0) && int_eq (pos b) (pos 0)) ≡ true → a + b ≡ 0
both_zero a b e =
    let p = and_parts (int_eq (pos a) (pos 0)) (int_eq (pos b) (pos 0)) e in
    let x : pos a ≡ pos 0 = (Decides-int_eq (pos a) (pos 0)).0 p.0 in
    let y : pos b ≡ pos 0 = (Decides-int_eq (pos b) (pos 0)).0 p.1 in
    omega (arith, ints)

zero_both : (a b : ℕ) → a + b ≡ 0 → (int_eq (pos a) (pos 0) && int_eq (pos b) (pos 0)) ≡ true
zero_both a b e =
    and_from (int_eq (pos a) (pos 0)) (int_eq (pos b) (pos 0))
    ((Decides-int_eq (pos a) (pos 0)).1 (ap (λ (n : ℕ). pos n) (let x : a ≡ 0 = omega arith in x)))
    ((Decides-int_eq (pos b) (pos 0)).1 (ap (λ (n : ℕ). pos n) (let x : b ≡ 0 = omega arith in x)))

weights_are : (a b : ℤ) → are_weights a b ≡ true → AreWeights a b
weights_are (pos a) (pos b) e =
    let p = and_parts (is_weight (pos a) && is_weight (pos b)) (not (int_eq (pos a) (pos 0) && int_eq (pos b) (pos 0)))
    e in
    let q = and_parts (is_weight (pos a)) (is_weight (pos b)) p.0 in
    (weight_is a q.0, weight_is b q.1, some_weight a b (not-true _ p.1))
  where
    some_weight : (a b : ℕ) → (int_eq (pos a) (pos 0) && int_eq (pos b) (pos 0)) ≡ false → 0 < a + b
    some_weight (suc a) b n = omega arith
    some_weight zero (suc b) n = omega arith
    some_weight zero zero n = absurd (false≢true (sym n ∙ zero_both 0 0 refl))
weights_are (negsuc a) b e = absurd (false≢true e)
weights_are (pos a) (negsuc b) e = absurd (false≢true (sym (no_second (is_weight (pos a)) _) ∙ e))
  where
    no_second : (x y : Bool) → (x && false && y) ≡ false
    no_second true y = refl
    no_second false y = refl

weights_test : (a b : ℤ) → AreWeights a b → are_weights a b ≡ true
weights_test (pos a) (pos b) h =
    and_from (is_weight (pos a) && is_weight (pos b)) (not (int_eq (pos a) (pos 0) && int_eq (pos b) (pos 0)))
    (and_from (is_weight (pos a)) (is_weight (pos b)) (weight_test a h.0) (weight_test b h.1))
    (not_both (int_eq (pos a) (pos 0) && int_eq (pos b) (pos 0)) (λ e. omega (arith, h.2, both_zero a b e)))
  where
    not_both : (x : Bool) → (x ≡ true → ⊥) → not x ≡ true
    not_both true n = absurd (n refl)
    not_both false n = refl
weights_test (negsuc a) b h = absurd h
weights_test (pos a) (negsuc b) h = absurd h

pub weighted_is : (cost : CostParts) → is_weighted cost ≡ true → AllByRecursion IsMix (weights cost)
weighted_is span e = tt
weighted_is area e = tt
weighted_is (mix a b) e = (weights_are a b e, tt)

pub weighted_test : (cost : CostParts) → AllByRecursion IsMix (weights cost) → is_weighted cost ≡ true
weighted_test span h = refl
weighted_test area h = refl
weighted_test (mix a b) h = weights_test a b h.0
