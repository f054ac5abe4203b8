-- The divided search reads few costs: a region is cut by its middle word, and the two parts are searched in turn.
use Rattle.std.proofs.Common.{◌≡◌, ℕ, zero, suc, ◌+◌, ◌-◌, ◌*◌, ◌/◌, ◌<◌, ◌≤◌, refl, ap, ◌∙◌, arith, ◌⊎◌, inl, inr, mul-le-mul_right, mul-le-mul_left}
use Rattle.std.proofs.lemmas.Bool.{cases_lt}
use Rattle.row_paths.specs.Counts.{digits_up_to, digits, area, readings}

-- any first number of at least k gives the same digits
digits_up_to-same : (f g k : ℕ) → k ≤ f → k ≤ g → digits_up_to f k ≡ digits_up_to g k
digits_up_to-same zero zero k p q = refl
digits_up_to-same zero (suc g) zero p q = refl
digits_up_to-same zero (suc g) (suc k) p q = absurd (omega arith)
digits_up_to-same (suc f) zero zero p q = refl
digits_up_to-same (suc f) zero (suc k) p q = absurd (omega arith)
digits_up_to-same (suc f) (suc g) zero p q = refl
digits_up_to-same (suc f) (suc g) (suc k) p q =
    ap (λ (x : ℕ). 1 + x) (digits_up_to-same f g (suc k / 2) (omega arith) (omega arith))

-- half the number has one digit less
pub digits-half : (k : ℕ) → 0 < k → digits k ≡ 1 + digits (k / 2)
unfolding digits
digits-half zero p = absurd (omega arith)
digits-half (suc k) p = ap (λ (x : ℕ). 1 + x) (digits_up_to-same k (suc k / 2) (suc k / 2) (omega arith) (omega arith))

pub digits-none : digits 0 ≡ 0
unfolding digits
digits-none = refl

-- a greater number has at least as many digits
digits_up_to-mono : (f k l : ℕ) → k ≤ l → digits_up_to f k ≤ digits_up_to f l
digits_up_to-mono zero k l le = omega arith
digits_up_to-mono (suc f) zero zero le = omega arith
digits_up_to-mono (suc f) zero (suc l) le = omega arith
digits_up_to-mono (suc f) (suc k) zero le = absurd (omega arith)
digits_up_to-mono (suc f) (suc k) (suc l) le = omega (arith, digits_up_to-mono f (suc k / 2) (suc l / 2) (omega arith))

pub digits-mono : (k l : ℕ) → k ≤ l → digits k ≤ digits l
unfolding digits
digits-mono k l le = omega (arith, digits_up_to-mono l k l le, digits_up_to-same k l k (omega arith) le)

-- a number has at most as many digits as its value
digits_up_to-le : (f k : ℕ) → digits_up_to f k ≤ k
digits_up_to-le zero k = omega arith
digits_up_to-le (suc f) zero = omega arith
digits_up_to-le (suc f) (suc k) = omega (arith, digits_up_to-le f (suc k / 2))

pub digits-le : (k : ℕ) → digits k ≤ k
unfolding digits
digits-le k = digits_up_to-le k k

-- the numbers of digits of the two halves of k - 1
pub halves : (k k' : ℕ) → k ≤ k' → k' ≤ k + 1 → (digits (k + k' + 1) ≡ 1 + digits k') × (digits k ≤ digits k')
    × (digits k' ≤ digits k + 1)
halves k k' le le' = (first, digits-mono k k' le, last (cases_lt 0 k'))
  where
    first : digits (k + k' + 1) ≡ 1 + digits k'
    first =
        let e : (k + k' + 1) / 2 ≡ k' = omega arith in
        digits-half (k + k' + 1) (omega arith) ∙ ap (λ (x : ℕ). 1 + digits x) e

    last : (0 < k') ⊎ (k' ≤ 0) → digits k' ≤ digits k + 1
    last (inl lt) = omega (arith, digits-half k' lt, digits-mono (k' / 2) k (omega arith))
    last (inr ge) = omega (arith, digits-le k')

-- a difference times a number
times_left : (x y w : ℕ) → y ≤ x → (x - y) * w + y * w ≡ x * w
times_left x y w le = let e : x - y + y ≡ x = omega arith in omega (arith, ap (λ (z : ℕ). z * w) e)

-- the sum of what both halves take, from the numbers d, d1 and d2 of digits
halves_take : (k1 k2 a a1 a2 d d1 d2 w : ℕ) → a1 + a2 ≤ a + w → d1 ≤ d → d2 ≤ d → 2 * d ≤ d1 + d2 + 1 → d1 ≤ 3 * k1
    → d2 ≤ 3 * k2 → d + 1 ≤ 3 * (k1 + k2 + 1)
    → a + w + (d1 * a1 + (3 * k1 - d1) * w) + (d2 * a2 + (3 * k2 - d2) * w) ≤ (1 + d) * a
    + (3 * (k1 + k2 + 1) - (1 + d)) * w
halves_take k1 k2 a a1 a2 d d1 d2 w cut p q s t u v =
    omega (
      arith,
      mul-le-mul_right a1 p,
      mul-le-mul_right a2 q,
      mul-le-mul_left d cut,
      mul-le-mul_right w s,
      times_left (3 * k1) d1 w t,
      times_left (3 * k2) d2 w u,
      times_left (3 * (k1 + k2 + 1)) (1 + d) w (omega arith),
    )

-- the middle word reads two costs for each place and each step, and the two parts have at most w more places
pub readings-halves : (k k' a b b' w : ℕ) → k ≤ k' → k' ≤ k + 1 → b + b' ≤ a + w
    → 2 * (a + w) + readings k b w + readings k' b' w ≤ readings (k + k' + 1) a w
readings-halves k k' a b b' w le le' cut =
    let h = halves k k' le le' in
    let t = halves_take k k' a b b' (digits k') (digits k) (digits k') w cut h.1 (omega arith) (omega (arith, h.2))
    (omega (arith, digits-le k)) (omega (arith, digits-le k')) (omega (arith, digits-le k')) in
    let e = ap (λ (x : ℕ). 2 * (x * a + (3 * (k + k' + 1) - x) * w)) h.0 in
    omega (arith, t, e)

-- the places of k + l rows are those of the first k rows and of the next l
pub area-more : (lo hi : ℕ → ℕ) (i k l : ℕ) → area lo hi i (k + l) ≡ area lo hi i k + area lo hi (i + k) l
area-more lo hi i k zero = omega (arith, ap (area lo hi i) (same k))
  where
    same : (k : ℕ) → k + 0 ≡ k
    same k = omega arith
area-more lo hi i k (suc l) =
    let e : k + suc l ≡ suc (k + l) = omega arith in
    let d : i + k + l ≡ i + (k + l) = omega arith in
    rw e (omega (arith, area-more lo hi i k l, ap (λ (x : ℕ). hi x + 1 - lo x) d))

-- a region within another has at most as many places
pub area-mono : (lo hi lo' hi' : ℕ → ℕ) → ((x : ℕ) → lo' x ≤ lo x) → ((x : ℕ) → hi x ≤ hi' x) → (i k : ℕ)
    → area lo hi i k ≤ area lo' hi' i k
area-mono lo hi lo' hi' p q i zero = omega arith
area-mono lo hi lo' hi' p q i (suc k) = omega (arith, area-mono lo hi lo' hi' p q i k, p (i + k), q (i + k))

-- the two parts share the middle word's places: in each row, one more than the columns that it passes there
area_shared : (lo hi mid : ℕ → ℕ) → ((x : ℕ) → lo x ≤ mid x) → ((x : ℕ) → mid x ≤ mid (x + 1))
    → ((x : ℕ) → mid (x + 1) ≤ hi x) → (i k : ℕ)
    → area mid hi i k + area lo (λ x. mid (x + 1)) i k + mid i ≤ area lo hi i k + (mid (i + k) + k)
area_shared lo hi mid p q s i zero = omega (arith, ap mid (same i))
  where
    same : (i : ℕ) → i + 0 ≡ i
    same i = omega arith
area_shared lo hi mid p q s i (suc k) =
    let e : i + suc k ≡ i + k + 1 = omega arith in
    omega (arith, area_shared lo hi mid p q s i k, p (i + k), q (i + k), s (i + k), ap mid e)

-- a word of k rows cuts a region, with i rows before it in the first part and l rows after it in the second
pub area_cut : (lo hi mid : ℕ → ℕ) (n : ℕ) → ((x : ℕ) → lo x ≤ mid x) → ((x : ℕ) → mid x ≤ mid (x + 1))
    → ((x : ℕ) → mid (x + 1) ≤ hi x) → ((x : ℕ) → mid x ≤ n) → (from i k l : ℕ)
    → area mid hi from (i + k) + area lo (λ x. mid (x + 1)) (from + i) (k + l) ≤ area lo hi from (i + k + l) + (n + k)
area_cut lo hi mid n p q s b from i k l =
    let e : from + (i + k) ≡ from + i + k = omega arith in
    omega (
      arith,
      area-more mid hi from i k,
      area-more lo (λ x. mid (x + 1)) (from + i) k l,
      area-more lo hi from (i + k) l,
      area-more lo hi from i k,
      ap (λ (x : ℕ). area lo hi x l) e,
      area-mono mid hi lo hi p (λ x. omega arith) from i,
      area-mono lo (λ x. mid (x + 1)) lo hi (λ x. omega arith) s (from + i + k) l,
      area_shared lo hi mid p q s (from + i) k,
      b (from + i + k),
    )

-- rows of at most n + 1 places
pub area-whole : (lo hi : ℕ → ℕ) (n : ℕ) → ((x : ℕ) → hi x ≤ n) → (i k : ℕ) → area lo hi i k ≤ k * (n + 1)
area-whole lo hi n b i zero = omega arith
area-whole lo hi n b i (suc k) = omega (arith, area-whole lo hi n b i k, b (i + k))

-- three words in a strip of `all` places, the k words between two of them, and w readings more
all_take : (k m a all d w : ℕ) → k + 3 ≤ 2 * m → a ≤ all → d ≤ k → all ≤ 2 * m * w
    → 3 * (2 * (all + w)) + w + 2 * (d * a + (3 * k - d) * w) ≤ 2 * ((d + 2) * all + (8 * m + 2 * d) * w)
all_take k m a all d w le fits few small =
    omega (arith, mul-le-mul_left d fits, times_left (3 * k) d w (omega arith), mul-le-mul_right w (less k m le), small)
  where
    less : (k m : ℕ) → k + 3 ≤ 2 * m → 3 * k + 4 ≤ 6 * m
    less k m le = omega arith

-- the first and the last word of the turns, the least one once more, and the 2 m - 3 words between; a row is left over
pub readings-all : (k m n a : ℕ) → k + 3 ≤ 2 * m → a ≤ 2 * m * (n + 1)
    → 3 * (2 * (2 * m * (n + 1) + (m + n + 2))) + (m + n + 2)
    + readings k a (m + n + 2) ≤ 2 * ((digits k + 2) * (2 * m * (n + 1)) + (8 * m + 2 * digits k) * (m + n + 2))
readings-all k m n a le fits = all_take k m a (2 * m * (n + 1)) (digits k) (m + n + 2) le fits (digits-le k)
    (mul-le-mul_left (2 * m) (wide m n))
  where
    wide : (m n : ℕ) → n + 1 ≤ m + n + 2
    wide m n = omega arith

-- if some words are looked for, one of them may be
pub readings-some : (k a w : ℕ) → 0 < k → 2 * (a + w) ≤ readings k a w
readings-some k a w some = some_take (digits k) (3 * k - digits k) a w (omega (arith, digits-half k some))
    (omega (arith, digits-le k))
  where
    some_take : (d q a w : ℕ) → 1 ≤ d → 1 ≤ q → 2 * (a + w) ≤ 2 * (d * a + q * w)
    some_take d q a w p r = omega (arith, mul-le-mul_right a p, mul-le-mul_right w r)

-- at most 13 digits
digits_most : digits 8191 ≡ 13
unfolding digits
digits_most = refl

digits_few : (k : ℕ) → k < 8192 → digits k ≤ 13
digits_few k lt = omega (arith, digits-mono k 8191 (omega arith), digits_most)

-- the sum of what two parts take, from the numbers d, d1 and d2 of digits
parts_take : (k1 k2 a a1 a2 d d1 d2 w : ℕ) → a1 + a2 ≤ a + w → d1 ≤ d → d2 ≤ d → d ≤ 13 → d1 ≤ 3 * k1 → d2 ≤ 3 * k2
    → d ≤ 3 * (k1 + k2 + 1)
    → d1 * a1 + (3 * k1 - d1) * w + (d2 * a2 + (3 * k2 - d2) * w) ≤ d * a + (3 * (k1 + k2 + 1) - d) * w + 26 * w
parts_take k1 k2 a a1 a2 d d1 d2 w cut p q few t u v =
    omega (
      arith,
      mul-le-mul_right a1 p,
      mul-le-mul_right a2 q,
      mul-le-mul_left d cut,
      mul-le-mul_right w few,
      times_left (3 * k1) d1 w t,
      times_left (3 * k2) d2 w u,
      times_left (3 * (k1 + k2 + 1)) d w v,
    )

-- two parts of any sizes take little more than the whole
pub readings-parts : (k1 k2 a a1 a2 w : ℕ) → k1 + k2 + 1 < 8192 → a1 + a2 ≤ a + w
    → readings k1 a1 w + readings k2 a2 w ≤ readings (k1 + k2 + 1) a w + 52 * w
readings-parts k1 k2 a a1 a2 w few cut =
    omega (
      arith,
      parts_take k1 k2 a a1 a2 (digits (k1 + k2 + 1)) (digits k1) (digits k2) w cut
          (digits-mono k1 (k1 + k2 + 1) (omega arith)) (digits-mono k2 (k1 + k2 + 1) (omega arith))
          (digits_few (k1 + k2 + 1) few)
          (omega (arith, digits-le k1)) (omega (arith, digits-le k2)) (omega (arith, digits-le (k1 + k2 + 1))),
    )

-- what is left over if there are fewer places
pub readings-less : (k a b w : ℕ) → a ≤ b → 2 * digits k * (b - a) + readings k a w ≡ readings k b w
readings-less k a b w le =
    let e : b ≡ b - a + a = omega arith in
    omega (arith, ap (λ (x : ℕ). digits k * x) e)
