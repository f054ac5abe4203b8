-- The bound on readings in numbers: it is less than what a plain table for each start row reads.
use Rattle.std.proofs.Common.{◌≡◌, ℕ, zero, suc, ◌+◌, ◌-◌, ◌*◌, ◌/◌, ◌<◌, ◌≤◌, ◌⊎◌, inl, inr, refl, arith, mul-le-mul_right}
use Rattle.std.proofs.lemmas.Bool.{cases_lt}
use Rattle.row_paths.specs.Counts.{digits, most_readings, plain_readings}
use Rattle.row_paths.proofs.Counting.{digits-half, digits-mono}

-- the largest numbers of 6, 7 and 8 digits
digits_63 : digits 63 ≡ 6
unfolding digits
digits_63 = refl

digits_127 : digits 127 ≡ 7
unfolding digits
digits_127 = refl

digits_255 : digits 255 ≡ 8
unfolding digits
digits_255 = refl

-- a large number has few digits
digits_few : (f k : ℕ) → k ≤ f → 125 ≤ k → 16 * digits k ≤ k + 3
digits_few zero k le from = absurd (omega arith)
digits_few (suc f) k le from = by_size (cases_lt k 256) (digits_few f (k / 2))
  where
    by_size : (k < 256) ⊎ (256 ≤ k) → (k / 2 ≤ f → 125 ≤ k / 2 → 16 * digits (k / 2) ≤ k / 2 + 3)
        → 16 * digits k ≤ k + 3
    by_size (inl lt) half = omega (arith, digits-mono k 255 (omega arith), digits_255)
    by_size (inr ge) half = omega (arith, digits-half k (omega arith), half (omega arith) (omega arith))

-- the comparison, where d stands for the number of digits
fewer_6 : (n d : ℕ) → 32 ≤ n → d ≤ 6
    → 2 * ((d + 2) * (2 * n * (n + 1)) + (8 * n + 2 * d) * (n + n + 2)) < plain_readings n n
fewer_6 n d from few = omega (
  arith,
  few,
  mul-le-mul_right (n * n) few,
  mul-le-mul_right n few,
  mul-le-mul_right (n * n) from,
  mul-le-mul_right n from,
)

fewer_7 : (n d : ℕ) → 34 ≤ n → d ≤ 7
    → 2 * ((d + 2) * (2 * n * (n + 1)) + (8 * n + 2 * d) * (n + n + 2)) < plain_readings n n
fewer_7 n d from few = omega (
  arith,
  few,
  mul-le-mul_right (n * n) few,
  mul-le-mul_right n few,
  mul-le-mul_right (n * n) from,
  mul-le-mul_right n from,
)

fewer_more : (n d : ℕ) → 66 ≤ n → 8 * d ≤ n
    → 2 * ((d + 2) * (2 * n * (n + 1)) + (8 * n + 2 * d) * (n + n + 2)) < plain_readings n n
fewer_more n d from few = omega (
  arith,
  few,
  mul-le-mul_right (n * n) few,
  mul-le-mul_right n few,
  mul-le-mul_right (n * n) from,
  mul-le-mul_right n from,
)

-- with as many rows as columns, and at least 32
pub readings-fewer : (n : ℕ) → 32 ≤ n → most_readings n n < plain_readings n n
readings-fewer n from = by_size (cases_lt n 34) (cases_lt n 66)
  where
    by_size : (n < 34) ⊎ (34 ≤ n) → (n < 66) ⊎ (66 ≤ n) → most_readings n n < plain_readings n n
    by_size (inl small) _ = fewer_6 n (digits (2 * n - 3)) from
        (omega (arith, digits-mono (2 * n - 3) 63 (omega arith), digits_63))
    by_size (inr some) (inl few) = fewer_7 n (digits (2 * n - 3)) some
        (omega (arith, digits-mono (2 * n - 3) 127 (omega arith), digits_127))
    by_size (inr some) (inr more) = fewer_more n (digits (2 * n - 3)) more
        (omega (arith, digits_few (2 * n - 3) (2 * n - 3) (omega arith) (omega arith)))

-- with 1,024 of both
pub bound-1024 : most_readings 1024 1024 ≡ 88256600
unfolding digits
bound-1024 = refl

pub plain-1024 : plain_readings 1024 1024 ≡ 2151681024
plain-1024 = refl
