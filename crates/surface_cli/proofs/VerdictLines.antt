-- The line `ACCEPT PAIR k COST c` is that of no other verdict, pair or cost.
use Rattle.std.proofs.Common.{◌≡◌, ℕ, zero, suc, ◌+◌, ◌<◌, ◌≤◌, ◌^◌, ℤ, pos, negsuc, List, [], ◌∷◌, ◌++◌, length, get_or, drop, inl, inr, ◌⊎◌, refl, sym, subst, ap, ◌∙◌, arith}
use Rattle.std.specs.Prelude.{◌/◌, ◌%◌, ◌==◌, false, decimal, unsigned_abs}
use Rattle.std.specs.List.{AllByRecursion}
use Rattle.std.specs.Fmt.{signed_decimal, digits, digits_onto, digit_glyph}
use Rattle.std.specs.Str.Parse.{digits_value}
use Rattle.std.proofs.lemmas.Bool.{cases_Bool, cond-true, cond-false}
use Rattle.std.proofs.lemmas.Bool.Decides.{nat_tests}
use Rattle.std.proofs.lemmas.Fmt.{decimal_is_IsNumeral_wide, length-decimal-le_wide}
use Rattle.fku_types.specs.declared.limits.TheConstants.{MAX_PAIRS}
use Rattle.strip_graph.specs.Certificates.{IsModest}
use Rattle.cert_checker.specs.declared.certs.Verdict.{Verdict}
use Rattle.cert_checker.specs.declared.certs.Verdict.TheVariants.{Accept, Size, Word, Cost, Arc, Turn}
use Rattle.pair_commands.specs.Check.{verdict_text}

-- bytes above blanks, line feeds and the minus
abbrev AreHigh : List ℕ → Type 0
AreHigh xs = AllByRecursion (λ b. 45 < b) xs

glyph_high : (d : ℕ) → 45 < digit_glyph false d
glyph_high d = grind (arith, nat_tests)

onto_high : (j n : ℕ) (acc : List ℕ) → AreHigh acc → AreHigh (digits_onto j 10 false n acc)
onto_high zero n acc h = h
onto_high (suc j) n acc h =
    elim (cases_Bool ((n / 10) == 0)) [
      | inl e ↦ subst AreHigh (sym (cond-true _ _ _ e)) (glyph_high (n % 10), h)
      | inr e ↦ subst AreHigh (sym (cond-false _ _ _ e))
          (onto_high j (n / 10) (digit_glyph false (n % 10) ∷ acc) (glyph_high (n % 10), h))
    ]

-- a number has at most so many digits, or as many are written
onto_long : (j n : ℕ) (acc : List ℕ) → (n < 10 ^ j) ⊎ (length (digits_onto j 10 false n acc) ≡ j + length acc)
onto_long zero n acc = let none : length acc ≡ 0 + length acc = omega arith in inr none
onto_long (suc j) n acc =
    elim (cases_Bool ((n / 10) == 0)) [
      | inl e ↦ inl (short j n (grind (arith, nat_tests)))
      | inr e ↦ elim (onto_long j (n / 10) (digit_glyph false (n % 10) ∷ acc)) [
        | inl l ↦ inl (more j n l)
        | inr long ↦ inr (ap length (cond-false _ _ _ e) ∙ long ∙ omega arith)
      ]
    ]
  where
    positive : (j : ℕ) → 1 ≤ 10 ^ j
    positive zero = omega arith
    positive (suc j) = omega (arith, positive j)

    short : (j n : ℕ) → n / 10 ≡ 0 → n < 10 ^ suc j
    short j n e = omega (arith, positive j)

    more : (j n : ℕ) → n / 10 < 10 ^ j → n < 10 ^ suc j
    more j n l = omega (arith, l)

decimal_onto : (n : ℕ) → decimal n ≡ digits_onto 64 10 false n []
unfolding digits
decimal_onto n = refl

decimal_high : (n : ℕ) → AreHigh (decimal n)
decimal_high n = subst AreHigh (sym (decimal_onto n)) (onto_high 64 n [] tt)

-- a number written in fewer than 64 digits has a text of its own
few_digits : (n : ℕ) → length (decimal n) < 64 → n < 10 ^ 64
few_digits n l = elim (onto_long 64 n [])
    [ inl h ↦ h | inr long ↦ absurd (omega (arith, l, ap length (decimal_onto n), long)) ]

decimal_one : (m n : ℕ) → n < 10 ^ 37 → decimal m ≡ decimal n → m ≡ n
decimal_one m n l e =
    let short : length (decimal n) ≤ 37 = length-decimal-le_wide 37 n (omega arith) l (omega (arith, l)) in
    let wide = few_digits m (omega (arith, short, ap length e)) in
    sym (decimal_is_IsNumeral_wide m wide).1 ∙ ap (digits_value 10) e
    ∙ (decimal_is_IsNumeral_wide n (omega (arith, l))).1

-- no byte of a number without a minus is a minus
no_minus : (n : ℕ) (ds : List ℕ) → decimal n ≡ 45 ∷ ds → ⊥
no_minus n ds e = let h = subst AreHigh e (decimal_high n) in omega (arith, h.0)

signed_one : (y z : ℤ) → unsigned_abs z < 10 ^ 37 → signed_decimal y ≡ signed_decimal z → y ≡ z
signed_one (pos m) (pos n) l e = ap pos (decimal_one m n l e)
signed_one (pos m) (negsuc n) l e = absurd (no_minus m _ e)
signed_one (negsuc m) (pos n) l e = absurd (no_minus n _ (sym e))
signed_one (negsuc m) (negsuc n) l e = let same = decimal_one (suc m) (suc n) l (ap (drop 1) e) in
    ap negsuc (omega (arith, same))

-- lists that end before a lower byte differ by it
abbrev AreAbove : ℕ → List ℕ → Type 0
AreAbove s xs = AllByRecursion (λ b. s < b) xs

parted : (s : ℕ) (xs ys us vs : List ℕ) → AreAbove s xs → AreAbove s us → xs ++ s ∷ ys ≡ us ++ s ∷ vs → (xs ≡ us)
    × (ys ≡ vs)
parted s [] ys [] vs h k e = (refl, ap (drop 1) e)
parted s [] ys (u ∷ us) vs h k e = absurd (omega (arith, k.0, ap (λ (l : List ℕ). get_or l 0 0) e))
parted s (x ∷ xs) ys [] vs h k e = absurd (omega (arith, h.0, ap (λ (l : List ℕ). get_or l 0 0) e))
parted s (x ∷ xs) ys (u ∷ us) vs h k e =
    let rest = parted s xs ys us vs h.1 k.1 (ap (drop 1) e) in
    let same : x ≡ u = ap (λ (l : List ℕ). get_or l 0 0) e in
    (ap (λ (b : ℕ). b ∷ xs) same ∙ ap (λ (l : List ℕ). u ∷ l) rest.0, rest.1)

above : (s : ℕ) (xs : List ℕ) → s ≤ 44 → AllByRecursion (λ b. 45 ≤ b) xs → AreAbove s xs
above s [] l h = tt
above s (x ∷ xs) l h = (omega (arith, l, h.0), above s xs l h.1)

above_minus : (xs : List ℕ) → AreHigh xs → AllByRecursion (λ b. 45 ≤ b) xs
above_minus [] h = tt
above_minus (x ∷ xs) h = (omega (arith, h.0), above_minus xs h.1)

signed_above : (z : ℤ) → AllByRecursion (λ b. 45 ≤ b) (signed_decimal z)
signed_above (pos n) = above_minus (decimal n) (decimal_high n)
signed_above (negsuc n) = (omega arith, above_minus (decimal (suc n)) (decimal_high (suc n)))

-- a line that begins with `A` does not begin with `R`
begins : (text more : List ℕ) → 65 ∷ text ≡ 82 ∷ more → ⊥
begins text more e = let bytes : 65 ≡ 82 = ap (λ (l : List ℕ). get_or l 0 0) e in omega (arith, bytes)

accepts : (k m : ℕ) (c d : ℤ) → m ≤ MAX_PAIRS → IsModest d → verdict_text k c Accept ≡ verdict_text m d Accept → (k ≡ m)
    × (c ≡ d)
accepts k m c d few modest e =
    let numbers = parted 32 (decimal k) _ (decimal m) _
    (above 32 (decimal k) (omega arith) (above_minus (decimal k) (decimal_high k)))
    (above 32 (decimal m) (omega arith) (above_minus (decimal m) (decimal_high m))) (ap (drop 12) e) in
    let costs = parted 10 (signed_decimal c) [] (signed_decimal d) []
    (above 10 (signed_decimal c) (omega arith) (signed_above c))
    (above 10 (signed_decimal d) (omega arith) (signed_above d)) (ap (drop 5) numbers.1) in
    (decimal_one k m (omega (arith, few)) numbers.0, signed_one c d (omega (arith, modest)) costs.0)

-- The line of an accepted certificate has its pair and its cost, whatever numbers it is read as.
pub accepted_line : (k m : ℕ) (c d : ℤ) (v : Verdict) → m ≤ MAX_PAIRS → IsModest d
    → verdict_text k c Accept ≡ verdict_text m d v → (v ≡ Accept) × (k ≡ m) × (c ≡ d)
accepted_line k m c d Accept few modest e = let same = accepts k m c d few modest e in (refl, same.0, same.1)
accepted_line k m c d Size few modest e = absurd (begins _ _ e)
accepted_line k m c d Word few modest e = absurd (begins _ _ e)
accepted_line k m c d Cost few modest e = absurd (begins _ _ e)
accepted_line k m c d (Arc i j s) few modest e = absurd (begins _ _ e)
accepted_line k m c d (Turn i) few modest e = absurd (begins _ _ e)
