-- Fields: their widths, and that they determine their numbers.
use Rattle.std.proofs.Common.{◌≡◌, ℕ, zero, suc, ◌+◌, ◌-◌, ◌<◌, ◌≤◌, ◌^◌, ◌==◌, ◌⊎◌, inl, inr, ℤ, pos, negsuc, cond, List, [], ◌∷◌, ◌++◌, length, take, drop, get_or, replicate, set, true, false, true≢false, sym, ap, ap₂, ◌∙◌, arith, append_assoc, to_z, of_z, w32, to_z-of_z, SFits}
use Rattle.std.specs.Prelude.{unsigned_abs, decimal}
use Rattle.std.specs.Fmt.{signed_decimal}
use Rattle.std.proofs.Math.Seq.{take-append_seam}
use Rattle.std.proofs.lemmas.List.{length-append, length-replicate, get_or-append-add, take-replicate, take-append-le, drop-append-le, length-take, take-append-drop, take-take, take-set-le, drop-set}
use Rattle.std.proofs.lemmas.Int.{ints}
use Rattle.std.proofs.lemmas.Bool.{ne_eqb, cases_lt, cond-false, ltb-true}
use Rattle.std.proofs.lemmas.Fmt.{decimal_digit, length-decimal-le, decimal_nonempty, decimal_injective, signed_decimal_injective, first_decimal}
use Rattle.fku_types.specs.Points.{IsCoordinate}
use lib.Signed.{mag, lt_z}
use Rattle.byu_text.specs.Fields.{FitsField, number_field, sign_byte, six_digits, IsFilled, coordinate_field}

-- ---- numbers in 8 columns

pub pos_below : (n : ℕ) → FitsField (pos n) → n < 10 ^ 8
pos_below n h = omega (arith, ints, h.1)

pub negsuc_below : (n : ℕ) → FitsField (negsuc n) → n + 1 < 10 ^ 7
negsuc_below n h = omega (arith, ints, h.0)

pub fits_pos : (n : ℕ) → n < 10 ^ 8 → FitsField (pos n)
fits_pos n h = (omega (arith, ints), omega (arith, ints, h))

pub fits_negsuc : (n : ℕ) → n + 1 < 10 ^ 7 → FitsField (negsuc n)
fits_negsuc n h = (omega (arith, ints, h), omega (arith, ints))

pub size_below : (z : ℤ) → FitsField z → unsigned_abs z < 10 ^ 8
size_below (pos n) h = pos_below n h
size_below (negsuc n) h = omega (arith, negsuc_below n h)

pub negative_below : (z : ℤ) → FitsField z → lt_z z (pos 0) ≡ true → unsigned_abs z < 10 ^ 7
negative_below (pos n) h e = let below : n < 0 = ltb-true n 0 e in absurd (omega arith)
negative_below (negsuc n) h e = omega (arith, negsuc_below n h)

pub short : (z : ℤ) → FitsField z → length (signed_decimal z) ≤ 8
short (pos n) h = let k = pos_below n h in omega (arith, length-decimal-le 8 n (omega arith) k (omega (arith, k)))
short (negsuc n) h = let k = negsuc_below n h in
    omega (arith, length-decimal-le 7 (suc n) (omega arith) (omega (arith, k)) (omega (arith, k)))

pub number_columns : (z : ℤ) → FitsField z → length (number_field z) ≡ 8
number_columns z h =
    let k : ℕ = 8 - length (signed_decimal z) in
    omega (arith, short z h, length-append (replicate k 32) (signed_decimal z), length-replicate {A = ℕ} k 32)

-- a text without the blanks at its front
unblank : List ℕ → List ℕ
unblank [] = []
unblank (b ∷ bs) = cond (b == 32) (unblank bs) (b ∷ bs)

unblank-blanks : (k : ℕ) (b : ℕ) (bs : List ℕ) → (b ≡ 32 → ⊥) → unblank (replicate k 32 ++ b ∷ bs) ≡ b ∷ bs
unfolding unblank
unblank-blanks zero b bs ne = cond-false (b == 32) (unblank bs) (b ∷ bs) (ne_eqb b 32 ne)
unblank-blanks (suc k) b bs ne = unblank-blanks k b bs ne

-- a number's text begins with a minus or a digit
unblank-text : (k : ℕ) (text : List ℕ) → 0 < length text → (get_or text 0 0 ≡ 32 → ⊥)
    → unblank (replicate k 32 ++ text) ≡ text
unblank-text k [] l ne = absurd (omega arith)
unblank-text k (b ∷ bs) l ne = unblank-blanks k b bs ne

text_some : (z : ℤ) → FitsField z → 0 < length (signed_decimal z)
text_some (pos n) h = decimal_nonempty n (omega (arith, pos_below n h))
text_some (negsuc n) h = omega arith

pub text_begins : (z : ℤ) → FitsField z → get_or (signed_decimal z) 0 0 ≡ 32 → ⊥
text_begins (pos n) h e = digit (cases_lt 0 n)
  where
    digit : (0 < n) ⊎ (n ≤ 0) → ⊥
    digit (inl l) = absurd (omega (arith, e, first_decimal n l (omega (arith, pos_below n h))))
    digit (inr l) = absurd (omega (arith, e, ap (λ (text : List ℕ). get_or text 0 0) (decimal_digit n (omega arith))))
text_begins (negsuc n) h e = absurd (omega (arith, e))

unblank-number : (z : ℤ) → FitsField z → unblank (number_field z) ≡ signed_decimal z
unblank-number z h = unblank-text (8 - length (signed_decimal z)) (signed_decimal z) (text_some z h) (text_begins z h)

mag_small : (z : ℤ) → FitsField z → mag z < 2 ^ 63
mag_small (pos n) h = omega (arith, pos_below n h)
mag_small (negsuc n) h = omega (arith, negsuc_below n h)

pub number_one : (y z : ℤ) → FitsField y → FitsField z → number_field y ≡ number_field z → y ≡ z
number_one y z g h e = signed_decimal_injective y z (mag_small y g) (mag_small z h)
    (sym (unblank-number y g) ∙ ap unblank e ∙ unblank-number z h)

-- ---- coordinates in 12 columns

pub digits_few : (z : ℤ) → IsCoordinate z → length (decimal (unsigned_abs z)) ≤ 6
digits_few z h = length-decimal-le 6 (unsigned_abs z) (omega arith) (omega arith) (omega arith)

pub digits_some : (z : ℤ) → IsCoordinate z → 0 < length (decimal (unsigned_abs z))
digits_some z h = decimal_nonempty (unsigned_abs z) (omega arith)

-- the field of a sign and digits
abbrev pub written : ℕ → List ℕ → List ℕ
written s digits = s ∷ (take 1 digits
    ++ (46 ∷ [] ++ (drop 1 digits ++ (replicate (5 - (length digits - 1)) 48
    ++ (69 ∷ 43 ∷ 48 ∷ [] ++ decimal (length digits - 1))))))

-- the bytes after the point
abbrev pub behind : ℕ → List ℕ → List ℕ
behind k others = others ++ (replicate (5 - k) 48 ++ (69 ∷ 43 ∷ 48 ∷ (48 + k) ∷ []))

pub written_is : (s d : ℕ) (others : List ℕ) → length others ≤ 5
    → written s (d ∷ others) ≡ s ∷ d ∷ 46 ∷ behind (length others) others
written_is s d others l =
    let e : length (d ∷ others) - 1 ≡ length others = omega arith in
    ap (λ (k : ℕ). s ∷ d ∷ 46 ∷ (others ++ (replicate (5 - k) 48 ++ (69 ∷ 43 ∷ 48 ∷ decimal k)))) e
    ∙ ap (λ (text : List ℕ). s ∷ d ∷ 46 ∷ (others ++ (replicate (5 - length others) 48 ++ (69 ∷ 43 ∷ 48 ∷ text))))
    (decimal_digit (length others) (omega arith))

length-behind : (others : List ℕ) → length others ≤ 5 → length (behind (length others) others) ≡ 9
length-behind others l =
    let zeros : List ℕ = replicate (5 - length others) 48 in
    let last : List ℕ = 69 ∷ 43 ∷ 48 ∷ (48 + length others) ∷ [] in
    omega (
      arith,
      length-append others (zeros ++ last),
      length-append zeros last,
      length-replicate {A = ℕ} (5 - length others) 48,
    )

length-written : (s : ℕ) (digits : List ℕ) → 0 < length digits → length digits ≤ 6 → length (written s digits) ≡ 12
length-written s [] some few = absurd (omega arith)
length-written s (d ∷ others) some few =
    omega (arith, ap length (written_is s d others (omega arith)), length-behind others (omega arith))

pub coordinate_columns : (z : ℤ) → IsCoordinate z → length (coordinate_field z) ≡ 12
coordinate_columns z h = length-written (sign_byte z) (decimal (unsigned_abs z)) (digits_some z h) (digits_few z h)

pub power_read : (others : List ℕ) → length others ≤ 5 → get_or (behind (length others) others) 8 0 ≡ 48 + length others
power_read others l =
    let zeros : List ℕ = replicate (5 - length others) 48 in
    let last : List ℕ = 69 ∷ 43 ∷ 48 ∷ (48 + length others) ∷ [] in
    let e : 8 ≡ length others + (length zeros + 3) = omega (arith, length-replicate {A = ℕ} (5 - length others) 48) in
    ap (λ (n : ℕ). get_or (behind (length others) others) n 0) e
    ∙ get_or-append-add others (zeros ++ last) (length zeros + 3) 0 ∙ get_or-append-add zeros last 3 0

-- the digits in a field
digits_in : List ℕ → List ℕ
digits_in field = take 1 (drop 1 field) ++ take (get_or field 11 0 - 48) (drop 3 field)

digits_in-written : (s : ℕ) (digits : List ℕ) → 0 < length digits → length digits ≤ 6
    → digits_in (written s digits) ≡ digits
unfolding digits_in
digits_in-written s [] some few = absurd (omega arith)
digits_in-written s (d ∷ others) some few =
    let l : length others ≤ 5 = omega arith in
    let k : get_or (behind (length others) others) 8 0 - 48 ≡ length others = omega (arith, power_read others l) in
    ap digits_in (written_is s d others l)
    ∙ ap (λ (n : ℕ). d ∷ take n (behind (length others) others)) k
    ∙ ap (λ (text : List ℕ). d ∷ text)
    (take-append_seam others (replicate (5 - length others) 48 ++ (69 ∷ 43 ∷ 48 ∷ (48 + length others) ∷ [])))

one_number : (y z : ℤ) → unsigned_abs y ≡ unsigned_abs z → sign_byte y ≡ sign_byte z → y ≡ z
one_number (pos m) (pos n) a s = ap pos a
one_number (pos m) (negsuc n) a s = absurd (omega (arith, s))
one_number (negsuc m) (pos n) a s = absurd (omega (arith, s))
one_number (negsuc m) (negsuc n) a s = ap negsuc (omega (arith, a))

pub coordinate_one : (y z : ℤ) → IsCoordinate y → IsCoordinate z → coordinate_field y ≡ coordinate_field z → y ≡ z
coordinate_one y z g h e =
    let told = sym (digits_in-written (sign_byte y) (decimal (unsigned_abs y)) (digits_some y g) (digits_few y g))
    ∙ ap digits_in e ∙ digits_in-written (sign_byte z) (decimal (unsigned_abs z)) (digits_some z h) (digits_few z h)
    in
    one_number y z (decimal_injective (unsigned_abs y) (unsigned_abs z) (omega arith) (omega arith) told)
    (ap (λ (field : List ℕ). get_or field 0 0) e)

-- ---- fields put together from pieces

-- blanks and the text that ends a field
pub right_in : (field text : List ℕ) (start : ℕ) → take start field ≡ take start (replicate 8 32)
    → drop start field ≡ text → start + length text ≡ 8 → field ≡ replicate (8 - length text) 32 ++ text
right_in field text start before digits long =
    sym (take-append-drop start field)
    ∙ ap₂ (λ (l m : List ℕ). l ++ m) (before ∙ take-replicate start 8 32 (omega arith)) digits
    ∙ ap (λ (k : ℕ). replicate k 32 ++ text) (let e : start ≡ 8 - length text = omega arith in e)

-- a number that is not negative, and one that is
pub not_negative : (z : ℤ) (field : List ℕ) (start : ℕ) → lt_z z (pos 0) ≡ false
    → take start field ≡ take start (replicate 8 32) → drop start field ≡ decimal (unsigned_abs z)
    → start + length (decimal (unsigned_abs z)) ≡ 8 → field ≡ number_field z
not_negative (pos n) field start e before digits long = right_in field (decimal n) start before digits long
not_negative (negsuc n) field start e before digits long = absurd (true≢false e)

pub negative : (z : ℤ) (field : List ℕ) (start : ℕ) → lt_z z (pos 0) ≡ true
    → take start field ≡ take start (replicate 8 32) → drop start field ≡ decimal (unsigned_abs z)
    → start + length (decimal (unsigned_abs z)) ≡ 8 → 1 ≤ start → set field (start - 1) 45 ≡ number_field z
negative (pos n) field start e before digits long some = let below : n < 0 = ltb-true n 0 e in absurd (omega arith)
negative (negsuc n) field start e before digits long some =
    let at : ℕ = start - 1 in
    let next : at + 1 ≡ start = omega arith in
    let inside : at < length field = omega (
      arith,
      ap length before,
      length-take start field,
      length-take {A = ℕ} start (replicate 8 32),
      length-replicate {A = ℕ} 8 32,
    ) in
    right_in (set field at 45) (45 ∷ decimal (suc n)) at
    (take-set-le at field at 45 (omega arith) ∙ sym (take-take at start field (omega arith)) ∙ ap (take at) before
    ∙ take-take at start (replicate 8 32) (omega arith))
    (drop-set field at 45 inside ∙ ap (λ (k : ℕ). 45 ∷ drop k field) next ∙ ap (λ (text : List ℕ). 45 ∷ text) digits)
    (omega arith)

-- the columns of a coordinate, from its digits with zeros after them
pub coordinate_made : (z : ℤ) (s k six : ℕ) → s ≡ sign_byte z → k ≤ 5 → IsFilled (unsigned_abs z) k six →
    s ∷ (take 1 (six_digits six) ++ (46 ∷ (drop 1 (six_digits six) ++ (69 ∷ 43 ∷ 48 ∷ (48 + k) ∷ []))))
    ≡ coordinate_field z
coordinate_made z s k six sg few filled =
    let digits : List ℕ = decimal (unsigned_abs z) in
    let zeros : List ℕ = replicate (5 - k) 48 in
    let last : List ℕ = 69 ∷ 43 ∷ 48 ∷ (48 + k) ∷ [] in
    let some : 1 ≤ length digits = omega (arith, filled.count) in
    let ke : k ≡ length digits - 1 = omega (arith, filled.count) in
    ap₂ (λ (f o : List ℕ). s ∷ (f ++ (46 ∷ (o ++ last))))
    (ap (take 1) filled.digits ∙ take-append-le 1 digits zeros some)
    (ap (drop 1) filled.digits ∙ drop-append-le 1 digits zeros some)
    ∙ ap (λ (l : List ℕ). s ∷ (take 1 digits ++ (46 ∷ l))) (append_assoc (drop 1 digits) zeros last)
    ∙ ap₂ (λ (c : ℕ) (text : List ℕ). c ∷ (take 1 digits ++ (46 ∷ (drop 1 digits ++ (zeros ++ (69 ∷ 43 ∷ 48 ∷ text))))))
    sg (sym (decimal_digit k (omega arith)))
    ∙ ap (λ (n : ℕ). sign_byte z ∷ (take 1 digits
    ++ (46 ∷ (drop 1 digits ++ (replicate (5 - n) 48 ++ (69 ∷ 43 ∷ 48 ∷ decimal n)))))) ke

-- a coordinate passed to a call is itself
pub passed : (z : ℤ) → IsCoordinate z → to_z w32 (of_z w32 z) ≡ z
passed z h = let f : SFits w32 z = omega (arith, ints) in to_z-of_z f

pub point_made : (x y z : ℤ) (old a b c : List ℕ) → a ≡ coordinate_field x → b ≡ coordinate_field y
    → c ≡ coordinate_field z → ((old ++ a) ++ b) ++ c ≡ old
    ++ (coordinate_field x ++ (coordinate_field y ++ coordinate_field z))
point_made x y z old a b c e f g =
    append_assoc (old ++ a) b c ∙ append_assoc old a (b ++ c) ∙ ap (λ (l : List ℕ). old ++ (l ++ (b ++ c))) e
    ∙ ap₂ (λ (l m : List ℕ). old ++ (coordinate_field x ++ (l ++ m))) f g
