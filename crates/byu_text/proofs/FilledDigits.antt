-- Numbers filled up to six digits with zeros at the end.
use Rattle.std.proofs.Common.{◌≡◌, ℕ, ◌+◌, ◌-◌, ◌*◌, ◌/◌, ◌%◌, ◌<◌, ◌≤◌, List, [], ◌∷◌, ◌++◌, length, replicate, sym, ap, ◌∙◌, arith}
use Rattle.std.specs.Prelude.{decimal}
use Rattle.std.proofs.lemmas.Fmt.{decimal_digit, decimal_step}
use Rattle.byu_text.specs.Fields.{three_digits, six_digits, IsFilled}

-- the last three digits of a number are those of its rest
pub three_last : (n : ℕ) → three_digits (n % 1000) ≡ three_digits n
three_last n =
    let a : 48 + n % 1000 / 100 % 10 ≡ 48 + n / 100 % 10 = omega arith in
    let b : 48 + n % 1000 / 10 % 10 ≡ 48 + n / 10 % 10 = omega arith in
    let c : 48 + n % 1000 % 10 ≡ 48 + n % 10 = omega arith in
    λ i. a i ∷ b i ∷ c i ∷ []

-- a number's digits, from those of its tenth
longer : (n : ℕ) (ds : List ℕ) → 10 ≤ n → n ≤ 999999 → decimal (n / 10) ≡ ds → decimal n ≡ ds ++ ((48 + n % 10) ∷ [])
longer n ds some few e = decimal_step n some (omega arith) ∙ ap (λ (l : List ℕ). l ++ ((48 + n % 10) ∷ [])) e

two : (n : ℕ) → 10 ≤ n → n < 100 → decimal n ≡ (48 + n / 10) ∷ (48 + n % 10) ∷ []
two n some few = longer n _ some (omega arith) (decimal_digit (n / 10) (omega arith))

three : (n : ℕ) → 100 ≤ n → n < 1000 → decimal n ≡ (48 + n / 10 / 10) ∷ (48 + n / 10 % 10) ∷ (48 + n % 10) ∷ []
three n some few = longer n _ (omega arith) (omega arith) (two (n / 10) (omega arith) (omega arith))

four : (n : ℕ) → 1000 ≤ n → n < 10000
    → decimal n ≡ (48 + n / 10 / 10 / 10) ∷ (48 + n / 10 / 10 % 10) ∷ (48 + n / 10 % 10) ∷ (48 + n % 10) ∷ []
four n some few = longer n _ (omega arith) (omega arith) (three (n / 10) (omega arith) (omega arith))

five : (n : ℕ) → 10000 ≤ n → n < 100000
    → decimal n ≡ (48 + n / 10 / 10 / 10 / 10) ∷ (48 + n / 10 / 10 / 10 % 10) ∷ (48 + n / 10 / 10 % 10)
    ∷ (48 + n / 10 % 10) ∷ (48 + n % 10) ∷ []
five n some few = longer n _ (omega arith) (omega arith) (four (n / 10) (omega arith) (omega arith))

six : (n : ℕ) → 100000 ≤ n → n ≤ 999999
    → decimal n ≡ (48 + n / 10 / 10 / 10 / 10 / 10) ∷ (48 + n / 10 / 10 / 10 / 10 % 10) ∷ (48 + n / 10 / 10 / 10 % 10)
    ∷ (48 + n / 10 / 10 % 10) ∷ (48 + n / 10 % 10) ∷ (48 + n % 10) ∷ []
six n some few = longer n _ (omega arith) few (five (n / 10) (omega arith) (omega arith))

-- six digits are others
six_are : (m a b c d e f : ℕ) → 48 + m / 1000 / 100 % 10 ≡ a → 48 + m / 1000 / 10 % 10 ≡ b → 48 + m / 1000 % 10 ≡ c
    → 48 + m / 100 % 10 ≡ d → 48 + m / 10 % 10 ≡ e → 48 + m % 10 ≡ f → six_digits m ≡ a ∷ b ∷ c ∷ d ∷ e ∷ f ∷ []
six_are m a b c d e f p q r s t u = λ i. p i ∷ q i ∷ r i ∷ s i ∷ t i ∷ u i ∷ []

by_digits : (n k m : ℕ) (ds : List ℕ) → decimal n ≡ ds → k + 1 ≡ length ds → six_digits m ≡ ds ++ replicate (5 - k) 48
    → IsFilled n k m
by_digits n k m ds e l s = record {
  count = l ∙ ap length (sym e);
  digits = s ∙ ap (λ (l : List ℕ). l ++ replicate (5 - k) 48) (sym e);
}

pub filled_one : (n : ℕ) → n < 10 → IsFilled n 0 (n * 100000)
filled_one n few = by_digits n 0 (n * 100000) _ (decimal_digit n few) (omega arith)
    (six_are (n * 100000) (48 + n) 48 48 48 48 48 (omega arith) (omega arith) (omega arith) (omega arith) (omega arith)
    (omega arith))

pub filled_two : (n : ℕ) → 10 ≤ n → n < 100 → IsFilled n 1 (n * 10000)
filled_two n some few = by_digits n 1 (n * 10000) _ (two n some few) (omega arith)
    (six_are (n * 10000) (48 + n / 10) (48 + n % 10) 48 48 48 48 (omega arith) (omega arith) (omega arith) (omega arith)
    (omega arith) (omega arith))

pub filled_three : (n : ℕ) → 100 ≤ n → n < 1000 → IsFilled n 2 (n * 1000)
filled_three n some few = by_digits n 2 (n * 1000) _ (three n some few) (omega arith)
    (six_are (n * 1000) (48 + n / 10 / 10) (48 + n / 10 % 10) (48 + n % 10) 48 48 48 (omega arith) (omega arith)
    (omega arith) (omega arith) (omega arith) (omega arith))

pub filled_four : (n : ℕ) → 1000 ≤ n → n < 10000 → IsFilled n 3 (n * 100)
filled_four n some few = by_digits n 3 (n * 100) _ (four n some few) (omega arith)
    (six_are (n * 100) (48 + n / 10 / 10 / 10) (48 + n / 10 / 10 % 10) (48 + n / 10 % 10) (48 + n % 10) 48 48
    (omega arith) (omega arith) (omega arith) (omega arith) (omega arith) (omega arith))

pub filled_five : (n : ℕ) → 10000 ≤ n → n < 100000 → IsFilled n 4 (n * 10)
filled_five n some few = by_digits n 4 (n * 10) _ (five n some few) (omega arith)
    (six_are (n * 10) (48 + n / 10 / 10 / 10 / 10) (48 + n / 10 / 10 / 10 % 10) (48 + n / 10 / 10 % 10)
    (48 + n / 10 % 10) (48 + n % 10) 48 (omega arith) (omega arith) (omega arith) (omega arith) (omega arith)
    (omega arith))

pub filled_six : (n : ℕ) → 100000 ≤ n → n ≤ 999999 → IsFilled n 5 n
filled_six n some few = by_digits n 5 n _ (six n some few) (omega arith)
    (six_are n (48 + n / 10 / 10 / 10 / 10 / 10) (48 + n / 10 / 10 / 10 / 10 % 10) (48 + n / 10 / 10 / 10 % 10)
    (48 + n / 10 / 10 % 10) (48 + n / 10 % 10) (48 + n % 10) (omega arith) (omega arith) (omega arith) (omega arith)
    (omega arith) (omega arith))
