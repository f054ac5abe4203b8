-- Digits and their value.
use Rattle.std.proofs.Common.{◌≡◌, ℕ, ◌+◌, ◌-◌, ◌*◌, ◌<◌, ◌≤◌, true, List, [], ◌∷◌, length, get_or, drop, arith}
use Rattle.std.proofs.lemmas.Bool.Decides.{nat_tests}
use Rattle.std.proofs.lemmas.List.{at_drop_more}
use Rattle.text_io.specs.Text.{value_after, is_digit}

pub digit_range : (b : ℕ) → is_digit b ≡ true → (48 ≤ b) × (b ≤ 57)
digit_range b h = (grind (arith, nat_tests), grind (arith, nat_tests))

-- more digits never make a number smaller
pub value_after-ge : (n : ℕ) (ds : List ℕ) → n ≤ value_after n ds
value_after-ge n [] = omega arith
value_after-ge n (d ∷ ds) = omega (arith, value_after-ge (10 * n + (d - 48)) ds)

pub value_after-more : (n : ℕ) (ds : List ℕ) (i : ℕ) → i < length ds
    → value_after n (drop i ds) ≡ value_after (10 * n + (get_or ds i 0 - 48)) (drop (i + 1) ds)
value_after-more n ds i inside = at_drop_more (value_after n) ds i 0 inside
