-- Lines of words that are written are read as these lines, and digits as numbers.
use Rattle.std.proofs.Common.{◌≡◌, ℕ, suc, ◌+◌, ◌<◌, ◌≤◌, ◌^◌, Bool, true, false, ◌||◌, List, [], ◌∷◌, ◌++◌, map, length, ℤ, pos, negsuc, Some, refl, ap, sym, ◌∙◌, subst, append-nil, arith, rules}
use Rattle.std.specs.Prelude.{◌==◌, decimal, not, unsigned_abs}
use Rattle.std.specs.List.{flat_map, AllByRecursion, AllZip, list_all}
use Rattle.std.specs.Option.{option_map}
use Rattle.std.specs.Fmt.{signed_decimal}
use Rattle.std.proofs.lemmas.Bool.{cond-true, cond-false, and_parts}
use Rattle.std.proofs.lemmas.Bool.Decides.{nat_tests}
use Rattle.std.proofs.lemmas.Fmt.{decimal_is_IsNumeral_wide}
use Rattle.std.proofs.lemmas.Str.Parse.{IsNumeralModel, numerals_by_fold}
use Rattle.text_io.specs.Text.{is_blank, without_return, onto_first, fed_lines, lines, word_ends, words, is_kept, kept_from, kept_lines, is_digit, are_digits, value_after, digits_of, signed, number_of}
use Rattle.text_io.specs.WordLists.{Word, text, number, MatchesWord, Matches, lines_of, word_text, spaced, line_text, IsWritable, IsWritableLine}
use Rattle.fku_types.proofs.ListLaws.{all_join, all_weaker}
use Rattle.text_io.proofs.TextLemmas.{AreSolid, word_read}
use Rattle.text_io.proofs.NumberLemmas.{digit_range}

-- bytes of a word: neither blank, feed, return nor the comment's mark
abbrev pub AreClean : List ℕ → Type 0
AreClean bs = AllByRecursion (λ (b : ℕ). 36 ≤ b) bs

abbrev pub IsClean : List ℕ → Type 0
IsClean bs = (0 < length bs) × AreClean bs

not_eq : (b k : ℕ) → k < b → (b == k) ≡ false
not_eq b k h = grind (arith, nat_tests)

not_blank : (b : ℕ) → 36 ≤ b → is_blank b ≡ false
not_blank b h = ap (λ (x : Bool). x || (b == 9)) (not_eq b 32 (omega (arith, h))) ∙ not_eq b 9 (omega (arith, h))

clean_solid : (bs : List ℕ) → AreClean bs → AreSolid bs
clean_solid bs c = all_weaker (λ (b : ℕ). 36 ≤ b) (λ (b : ℕ). is_blank b ≡ false) bs not_blank c

-- words
clean_read : (w rest : List ℕ) → IsClean w → word_ends rest ≡ true → words (w ++ rest) ≡ w ∷ words rest
clean_read w rest c e = word_read w rest c.0 (clean_solid w c.1) e

abbrev pub GoodWords : List Word → Type 0
GoodWords ws = AllByRecursion (λ (w : Word). IsClean (word_text w)) ws

spaced_read : (ws : List Word) → GoodWords ws → words (spaced ws) ≡ map word_text ws
spaced_read [] g = refl
spaced_read (w ∷ []) g = ap words (sym (append-nil (word_text w))) ∙ clean_read (word_text w) [] g.0 refl
spaced_read (w ∷ v ∷ more) g = clean_read (word_text w) (32 ∷ spaced (v ∷ more)) g.0 refl
    ∙ ap (λ (ws : List (List ℕ)). word_text w ∷ ws) (spaced_read (v ∷ more) g.1)

-- lines
fed_line : (xs rest : List ℕ) → AllByRecursion (λ (b : ℕ). 32 ≤ b) xs
    → fed_lines ((xs ++ 10 ∷ []) ++ rest) ≡ xs ∷ fed_lines rest
fed_line [] rest h = refl
fed_line (b ∷ xs) rest h = cond-false _ _ _ (not_eq b 10 (omega (arith, h.0)))
    ∙ ap (onto_first b) (fed_line xs rest h.1)

no_return : (xs : List ℕ) → AllByRecursion (λ (b : ℕ). 32 ≤ b) xs → without_return xs ≡ xs
no_return [] h = refl
no_return (b ∷ []) h = cond-false _ _ _ (not_eq b 13 (omega (arith, h.0)))
no_return (b ∷ c ∷ xs) h = ap (λ (ys : List ℕ). b ∷ ys) (no_return (c ∷ xs) h.1)

clean_inline : (xs : List ℕ) → AreClean xs → AllByRecursion (λ (b : ℕ). 32 ≤ b) xs
clean_inline xs h = all_weaker (λ (b : ℕ). 36 ≤ b) (λ (b : ℕ). 32 ≤ b) xs (λ b l. omega (arith, l)) h

spaced_inline : (ws : List Word) → GoodWords ws → AllByRecursion (λ (b : ℕ). 32 ≤ b) (spaced ws)
spaced_inline [] g = tt
spaced_inline (w ∷ []) g = clean_inline (word_text w) g.0.1
spaced_inline (w ∷ v ∷ more) g = all_join (λ (b : ℕ). 32 ≤ b) (word_text w) (32 ∷ spaced (v ∷ more))
    (clean_inline (word_text w) g.0.1) (omega arith, spaced_inline (v ∷ more) g.1)

abbrev pub GoodLine : List Word → Type 0
GoodLine ws = (0 < length ws) × GoodWords ws

lines_read : (ls : List (List Word)) → AllByRecursion GoodLine ls → lines (flat_map line_text ls) ≡ map spaced ls
lines_read [] g = refl
lines_read (l ∷ ls) g =
    ap (map without_return) (fed_line (spaced l) (flat_map line_text ls) (spaced_inline l g.0.1))
    ∙ ap (λ (x : List ℕ). x ∷ lines (flat_map line_text ls)) (no_return (spaced l) (spaced_inline l g.0.1))
    ∙ ap (λ (xs : List (List ℕ)). spaced l ∷ xs) (lines_read ls g.1)

first_kept : (w : List ℕ) (more : List (List ℕ)) → IsClean w → is_kept (w ∷ more) ≡ true
first_kept [] more c = absurd (omega (arith, c.0))
first_kept (b ∷ w) more c = ap not (not_eq b 35 (omega (arith, c.1.0)))

good_kept : (l : List Word) → GoodLine l → is_kept (words (spaced l)) ≡ true
good_kept [] g = absurd (omega (arith, g.0))
good_kept (w ∷ more) g = ap is_kept (spaced_read (w ∷ more) g.1) ∙ first_kept (word_text w) (map word_text more) g.1.0

kept_read : (n : ℕ) (ls : List (List Word)) → AllByRecursion GoodLine ls
    → lines_of (kept_from n (map spaced ls)) ≡ map (λ (l : List Word). map word_text l) ls
kept_read n [] g = refl
kept_read n (l ∷ ls) g =
    ap lines_of (cond-true _ _ _ (good_kept l g.0))
    ∙ ap (λ (ws : List (List ℕ)). ws ∷ lines_of (kept_from (n + 1) (map spaced ls))) (spaced_read l g.0.1)
    ∙ ap (λ (more : List (List (List ℕ))). map word_text l ∷ more) (kept_read (n + 1) ls g.1)

-- numbers
pub numerals : IsNumeralModel (λ ds. list_all is_digit ds ≡ true) (value_after 0)
numerals = numerals_by_fold _ (search rules) value_after (search rules)

some_digits : (ds : List ℕ) → 0 < length ds → list_all is_digit ds ≡ true → are_digits ds ≡ true
some_digits [] h e = absurd (omega (arith, h))
some_digits (d ∷ ds) h e = e

abbrev pub AreDigits : List ℕ → Type 0
AreDigits ds = list_all is_digit ds ≡ true

-- a number in decimal is digits, one at least, of this value
abbrev pub IsDecimal : ℕ → List ℕ → Type 0
IsDecimal n ds = AreDigits ds × (0 < length ds) × (value_after 0 ds ≡ n)

decimal_is : (n : ℕ) → n < 10 ^ 64 → IsDecimal n (decimal n)
decimal_is n h = let d = decimal_is_IsNumeral_wide n h in
    (numerals.from (decimal n) d.0.1, d.0.0, numerals.same (decimal n) d.0.1 ∙ d.1)

digits_read : (n : ℕ) → n < 10 ^ 64 → digits_of (decimal n) ≡ Some n
digits_read n h = let d = decimal_is n h in cond-true _ _ _ (some_digits (decimal n) d.1 d.0) ∙ ap Some d.2

digits_clean : (ds : List ℕ) → list_all is_digit ds ≡ true → AreClean ds
digits_clean [] e = tt
digits_clean (d ∷ ds) e = let p = and_parts (is_digit d) (list_all is_digit ds) e in
    (omega (arith, (digit_range d p.0).0), digits_clean ds p.1)

-- digits are bytes of a word
pub digits_solid : (ds : List ℕ) → list_all is_digit ds ≡ true → AreSolid ds
digits_solid ds e = clean_solid ds (digits_clean ds e)

decimal_clean : (n : ℕ) → n < 10 ^ 64 → IsClean (decimal n)
decimal_clean n h = let d = decimal_is n h in (d.1, digits_clean (decimal n) d.0)

-- digits without a minus are an integer
pub plain_read : (ds : List ℕ) (n : ℕ) → list_all is_digit ds ≡ true → 0 < length ds → digits_of ds ≡ Some n
    → number_of ds ≡ Some (pos n)
plain_read [] n e h r = absurd (omega (arith, h))
plain_read (d ∷ ds) n e h r =
    let p = and_parts (is_digit d) (list_all is_digit ds) e in
    cond-false _ _ _ (not_eq d 45 (omega (arith, (digit_range d p.0).0))) ∙ ap (option_map (signed false)) r

number_read : (z : ℤ) → unsigned_abs z < 10 ^ 64 → number_of (signed_decimal z) ≡ Some z
number_read (pos n) h = let s : n < 10 ^ 64 = h in let d = decimal_is n s in
    plain_read (decimal n) n d.0 d.1 (digits_read n s)
number_read (negsuc n) h = let s : suc n < 10 ^ 64 = h in ap (option_map (signed true)) (digits_read (suc n) s)

number_clean : (z : ℤ) → unsigned_abs z < 10 ^ 64 → IsClean (signed_decimal z)
number_clean (pos n) h = let s : n < 10 ^ 64 = h in decimal_clean n s
number_clean (negsuc n) h = let s : suc n < 10 ^ 64 = h in (omega arith, (omega arith, (decimal_clean (suc n) s).1))

-- words and lines that can be read back
word_clean : (w : Word) → IsWritable w → IsClean (word_text w)
word_clean (text t) h = h
word_clean (number z) h = number_clean z h

word_matches : (w : Word) → IsWritable w → MatchesWord (word_text w) w
word_matches (text t) h = refl
word_matches (number z) h = number_read z h

words_good : (ws : List Word) → AllByRecursion IsWritable ws → GoodWords ws
words_good ws h = all_weaker IsWritable (λ (w : Word). IsClean (word_text w)) ws word_clean h

words_match : (ws : List Word) → AllByRecursion IsWritable ws → Matches (map word_text ws) ws
words_match [] h = tt
words_match (w ∷ ws) h = (word_matches w h.0, words_match ws h.1)

lines_good : (ls : List (List Word)) → AllByRecursion IsWritableLine ls → AllByRecursion GoodLine ls
lines_good ls h = all_weaker IsWritableLine GoodLine ls (λ l k. (k.0, words_good l k.1)) h

lines_match : (ls : List (List Word)) → AllByRecursion IsWritableLine ls
    → AllZip Matches (map (λ (l : List Word). map word_text l) ls) ls
lines_match [] h = tt
lines_match (l ∷ ls) h = (words_match l h.0.1, lines_match ls h.1)

-- the text of lines reads as the lines
pub text_matches : (ls : List (List Word)) → AllByRecursion IsWritableLine ls
    → AllZip Matches (lines_of (kept_lines (flat_map line_text ls))) ls
text_matches ls h =
    let g = lines_good ls h in
    subst (λ (ks : List (List (List ℕ))). AllZip Matches ks ls)
    (sym (ap (λ (xs : List (List ℕ)). lines_of (kept_from 1 xs)) (lines_read ls g) ∙ kept_read 1 ls g))
    (lines_match ls h)
