-- Lines of two short numbers, read without looking for words.
use Rattle.std.proofs.Common.{◌≡◌, ℕ, ℤ, zero, suc, ◌+◌, ◌-◌, ◌*◌, ◌^◌, ◌<◌, ◌≤◌, true, false, List, [], ◌∷◌, ◌++◌, length, take, drop, get_or, Option, Some, refl, sym, ap, subst, subst₂, ◌∙◌, arith, rules, w32, SFits, to_z, of_z, to_z-of_z}
use Rattle.std.proofs.lemmas.Int.{ints}
use Rattle.std.proofs.Math.Seq.{drop-append_seam}
use Rattle.std.specs.Option.{option_map}
use Rattle.std.specs.List.{list_all}
use Rattle.std.proofs.lemmas.Bool.{and_from, and_parts, cond-true, false≢true}
use Rattle.fku_types.proofs.ListLaws.{take_next}
use Rattle.section_core.specs.Machine.{item_of, as_pair, point}
use Rattle.section_core.specs.Steps.{is_coordinate}
use Rattle.section_core.proofs.ItemTests.{coordinate_is}
use native.Mathlib.Numerals.{unary_clauses}
use Rattle.text_io.specs.Text.{words, is_digit, are_digits, value_after, signed}
use Rattle.text_io.proofs.TextLemmas.{AreSolid, word_read}
use Rattle.text_io.proofs.WrittenLines.{plain_read, digits_solid}
use Rattle.section_text.specs.Plain.{AreDigitsBefore, BeginsNoDigit, IsNumberBefore, IsPlainPoint}

-- ---- digits
-- the value of one more digit
value_push : (n : ℕ) (xs : List ℕ) (b : ℕ) → value_after n (xs ++ b ∷ []) ≡ 10 * value_after n xs + (b - 48)
value_push n [] b = refl
value_push n (x ∷ xs) b = value_push (10 * n + (x - 48)) xs b

pub pow_next : (k : ℕ) → 10 ^ (k + 1) ≡ 10 ^ k * 10
pow_next k = simp unary_clauses refl

pub value_next : (text : List ℕ) (k b : ℕ) → k < length text → b ≡ get_or text k b
    → value_after 0 (take (k + 1) text) ≡ 10 * value_after 0 (take k text) + (b - 48)
value_next text k b l e = ap (value_after 0) (take_next text k b l e) ∙ value_push 0 (take k text) b

-- ---- numbers
-- digits are a number
pub unsigned_before : (text : List ℕ) (n : ℤ) (rest : List ℕ) → AreDigitsBefore text false n rest
    → IsNumberBefore text n rest
unsigned_before text n rest h = at h.digits h.whole h.are h.value
  where
    at : (ds : List ℕ) → text ≡ ds ++ rest → are_digits ds ≡ true → n ≡ signed false (value_after 0 ds)
        → IsNumberBefore text n rest
    at [] w a v = absurd (search (a, rules))
    at (d ∷ ds) w a v = record {
      word = d ∷ ds;
      whole = w;
      some = omega arith;
      solid = digits_solid (d ∷ ds) a;
      number = plain_read (d ∷ ds) (value_after 0 (d ∷ ds)) a (omega arith) (cond-true _ _ _ a)
          ∙ ap (λ (z : ℤ). Some z) (sym v);
      in_range = h.in_range;
    }

-- a minus and digits are a number
pub signed_before : (text digits : List ℕ) (n : ℤ) (rest : List ℕ) → text ≡ 45 ∷ digits
    → AreDigitsBefore digits true n rest → IsNumberBefore text n rest
signed_before text digits n rest e h = record {
  word = 45 ∷ h.digits;
  whole = e ∙ ap (λ (bs : List ℕ). 45 ∷ bs) h.whole;
  some = omega arith;
  solid = (refl, solid h.digits h.are);
  number = ap (option_map (signed true)) (cond-true _ _ _ h.are) ∙ ap (λ (z : ℤ). Some z) (sym h.value);
  in_range = h.in_range;
}
  where
    solid : (ds : List ℕ) → are_digits ds ≡ true → AreSolid ds
    solid [] a = tt
    solid (d ∷ ds) a = digits_solid (d ∷ ds) a

-- ---- the whole of a number is read
all_digits : (ds : List ℕ) → are_digits ds ≡ true → list_all is_digit ds ≡ true
all_digits [] a = absurd (search (a, rules))
all_digits (d ∷ ds) a = a

-- as many digits as come first, but for a limit
ends_at : (ds rest : List ℕ) (n limit : ℕ) → list_all is_digit ds ≡ true → length ds ≤ limit → BeginsNoDigit rest
    → n ≤ limit → n ≤ length (ds ++ rest) → list_all is_digit (take n (ds ++ rest)) ≡ true
    → (n < limit → n < length (ds ++ rest) → is_digit (get_or (ds ++ rest) n 0) ≡ false) → n ≡ length ds
ends_at [] [] n limit a l e few there digits last = omega (arith, there)
ends_at [] (b ∷ bs) zero limit a l e few there digits last = refl
ends_at [] (b ∷ bs) (suc n) limit a l e few there digits last =
    absurd (false≢true (sym e ∙ (and_parts (is_digit b) (list_all is_digit (take n bs)) digits).0))
ends_at (d ∷ ds) rest zero limit a l e few there digits last =
    absurd (false≢true (sym (last (omega (arith, l)) (omega arith))
    ∙ (and_parts (is_digit d) (list_all is_digit ds) a).0))
ends_at (d ∷ ds) rest (suc n) zero a l e few there digits last = absurd (omega (arith, few))
ends_at (d ∷ ds) rest (suc n) (suc limit) a l e few there digits last =
    ap (λ (k : ℕ). suc k)
    (ends_at ds rest n limit (and_parts (is_digit d) (list_all is_digit ds) a).1 (omega (arith, l)) e
    (omega (arith, few)) (omega (arith, there))
    (and_parts (is_digit d) (list_all is_digit (take n (ds ++ rest))) digits).1
    (λ m k. last (omega (arith, m)) (omega (arith, k))))

pub count_is : (text ds rest : List ℕ) (n : ℕ) → text ≡ ds ++ rest → are_digits ds ≡ true → length ds ≤ 6
    → BeginsNoDigit rest → n ≤ 6 → n ≤ length text → list_all is_digit (take n text) ≡ true
    → (n < 6 → n < length text → is_digit (get_or text n 0) ≡ false) → n ≡ length ds
count_is text ds rest n e a l b few there digits last =
    ends_at ds rest n 6 (all_digits ds a) l b few (subst (λ (t : List ℕ). n ≤ length t) e there)
    (subst (λ (t : List ℕ). list_all is_digit (take n t) ≡ true) e digits)
    (subst (λ (t : List ℕ). n < 6 → n < length t → is_digit (get_or t n 0) ≡ false) e last)

pub rest_is : (text ds rest : List ℕ) (n : ℕ) → text ≡ ds ++ rest → n ≡ length ds → drop n text ≡ rest
rest_is text ds rest n e k = ap (drop n) e ∙ ap (λ (j : ℕ). drop j (ds ++ rest)) k ∙ drop-append_seam ds rest

-- ---- points
-- 32 bits hold a coordinate
coordinate_held : (z : ℤ) → is_coordinate z ≡ true → to_z w32 (of_z w32 z) ≡ z
coordinate_held z h = let c = coordinate_is z h in let f : SFits w32 z = omega (arith, ints) in to_z-of_z f

pub coordinates_held : (line : List ℕ) (x y : ℤ) → IsPlainPoint line x y
    → IsPlainPoint line (to_z w32 (of_z w32 x)) (to_z w32 (of_z w32 y))
coordinates_held line x y h =
    let both = and_parts (is_coordinate x) (is_coordinate y) h.in_range in
    subst₂ (IsPlainPoint line) (sym (coordinate_held x both.0)) (sym (coordinate_held y both.1)) h

pub two_numbers : (line rest second after : List ℕ) (x y : ℤ) → IsNumberBefore line x rest → rest ≡ 32 ∷ second
    → IsNumberBefore second y after → length after ≡ 0 → IsPlainPoint line x y
two_numbers line rest second [] x y f e s l = record {
  said =
      ap item_of
      (ap words (f.whole ∙ ap (λ (bs : List ℕ). f.word ++ bs) e) ∙ word_read f.word (32 ∷ second) f.some f.solid refl
      ∙ ap (λ (ws : List (List ℕ)). f.word ∷ ws) (ap words s.whole ∙ word_read s.word [] s.some s.solid refl))
      ∙ ap (λ (o : Option ℤ). as_pair o f.word s.word) f.number
      ∙ ap (option_map (λ (z : ℤ). point (x, z))) s.number;
  in_range = and_from _ _ f.in_range s.in_range;
}
two_numbers line rest second (b ∷ bs) x y f e s l = absurd (omega (arith, l))
