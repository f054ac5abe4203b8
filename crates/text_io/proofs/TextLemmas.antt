-- How the first line of a text and the first word of a line are found.
use Rattle.std.proofs.Common.{◌≡◌, ℕ, ◌+◌, ◌-◌, ◌<◌, ◌≤◌, min, Bool, true, false, not, List, [], ◌∷◌, ◌++◌, map, length, take, drop, get_or, slice_range, eqb, Bor, suc, MatchOption, refl, ap, sym, ◌∙◌, subst, inl, inr, arith, Option, None, Some, length-take, length-drop}
use Rattle.std.specs.Prelude.{unwrap_or, position}
use Rattle.std.specs.List.{before_first, after_first, position_or_len, AllByRecursion}
use Rattle.std.specs.Cmp.Lexicographic.{pointwise}
use Rattle.std.proofs.lemmas.Grind.{common_steps}
use Rattle.std.proofs.lemmas.Bool.Decides.{nat_tests}
use Rattle.std.proofs.lemmas.Bool.{false≢true, cases_Bool, cond-true, cond-false}
use Rattle.std.proofs.lemmas.List.{drop_all, drop-drop, drop_more, drop_min, take-take}
use Rattle.std.proofs.lemmas.List.Sums.{prefix_len-le-length, prefix_len_stops}
use Rattle.text_io.specs.Text.{is_feed, is_blank, fed_lines, onto_first, lines, first_line, after_line, without_return, words, word_ends, is_kept, IsLineAt}

-- `position(..).unwrap_or(len)`
pub position_default : (p : ℕ → Bool) (xs : List ℕ) → unwrap_or (position p xs) (length xs) ≡ position_or_len p xs
position_default p xs = let le = prefix_len-le-length (λ x. not (p x)) xs in grind (arith, common_steps, nat_tests)

before-no : (p : ℕ → Bool) (b : ℕ) (bs : List ℕ) → p b ≡ false → before_first p (b ∷ bs) ≡ b ∷ before_first p bs
before-no p b bs e = grind (arith, common_steps, nat_tests)

after-no : (p : ℕ → Bool) (b : ℕ) (bs : List ℕ) → p b ≡ false → after_first p (b ∷ bs) ≡ after_first p bs
after-no p b bs e = grind (arith, common_steps, nat_tests)

before-yes : (p : ℕ → Bool) (b : ℕ) (bs : List ℕ) → p b ≡ true → before_first p (b ∷ bs) ≡ []
before-yes p b bs e = grind (arith, common_steps, nat_tests)

after-yes : (p : ℕ → Bool) (b : ℕ) (bs : List ℕ) → p b ≡ true → after_first p (b ∷ bs) ≡ bs
after-yes p b bs e = grind (arith, common_steps, nat_tests)

fed-no : (b : ℕ) (bs : List ℕ) → is_feed b ≡ false → fed_lines (b ∷ bs) ≡ onto_first b (fed_lines bs)
fed-no b bs e = cond-false _ _ _ e

fed-yes : (b : ℕ) (bs : List ℕ) → is_feed b ≡ true → fed_lines (b ∷ bs) ≡ [] ∷ fed_lines bs
fed-yes b bs e = cond-true _ _ _ e

fed_first : (b : ℕ) (bs : List ℕ) → fed_lines (b ∷ bs) ≡ before_first is_feed (b ∷ bs)
    ∷ fed_lines (after_first is_feed (b ∷ bs))
fed_first b [] =
    elim (cases_Bool (is_feed b)) [
      | inl e ↦ rw (fed-yes b [] e, before-yes is_feed b [] e, after-yes is_feed b [] e) refl
      | inr e ↦ rw (fed-no b [] e, before-no is_feed b [] e, after-no is_feed b [] e) refl
    ]
fed_first b (c ∷ cs) =
    let more = fed_first c cs in
    elim (cases_Bool (is_feed b)) [
      | inl e ↦ rw (fed-yes b (c ∷ cs) e, before-yes is_feed b (c ∷ cs) e, after-yes is_feed b (c ∷ cs) e) refl
      | inr e ↦ rw (fed-no b (c ∷ cs) e, before-no is_feed b (c ∷ cs) e, after-no is_feed b (c ∷ cs) e)
          (ap (onto_first b) more)
    ]

-- a nonempty text is its first line and the lines of the text after it
pub lines_first : (text : List ℕ) → 0 < length text → lines text ≡ first_line text ∷ lines (after_line text)
lines_first [] h = absurd (omega arith)
lines_first (b ∷ bs) h = ap (map without_return) (fed_first b bs)

without_return-short : (xs : List ℕ) → length (without_return xs) ≤ length xs
without_return-short [] = omega arith
without_return-short (b ∷ []) = grind (arith, nat_tests)
without_return-short (b ∷ c ∷ bs) = omega (arith, without_return-short (c ∷ bs))

-- a line without its carriage return is a front of the line
without_return-front : (xs : List ℕ) → take (length (without_return xs)) xs ≡ without_return xs
without_return-front [] = refl
without_return-front (b ∷ []) =
    elim (cases_Bool (eqb b 13)) [
      | inl e ↦ rw (cond-true _ _ _ e) refl
      | inr e ↦ rw (cond-false _ _ _ e) refl
    ]
without_return-front (b ∷ c ∷ bs) = ap (λ r. b ∷ r) (without_return-front (c ∷ bs))

-- the part of a text from a byte on, cut at a length
slice-range-length : (text : List ℕ) (at n : ℕ) → slice_range text at (at + n) ≡ take n (drop at text)
slice-range-length text at n = let e : at + n - at ≡ n = omega arith in rw e refl

pub line_found : (text : List ℕ) (at n next : ℕ) (line : List ℕ) → at < length text
    → n ≡ position_or_len is_feed (drop at text) → line ≡ without_return (take n (drop at text))
    → next ≡ min (length (drop at text)) (n + 1) → IsLineAt text at at (at + length line) (at + next)
line_found text at n next line inside n-is line-is next-is =
    let rest = drop at text in
    let rest-length : length rest ≡ length text - at = length-drop at text in
    let n-le : n ≤ length rest = omega (arith, n-is, prefix_len-le-length (λ x. not (is_feed x)) rest) in
    let taken : length (take n rest) ≡ n = omega (arith, length-take n rest) in
    let short : length line ≤ n = omega (arith, ap length line-is, without_return-short (take n rest), taken) in
    let line-first : line ≡ first_line rest = line-is ∙ ap (λ (k : ℕ). without_return (take k rest)) n-is in
    let slice-is : slice_range text at (at + length line) ≡ line =
    slice-range-length text at (length line)
    ∙ sym (take-take (length line) n rest short)
    ∙ ap (λ (l : List ℕ). take (length l) (take n rest)) line-is
    ∙ without_return-front (take n rest)
    ∙ sym line-is in
    let next-at : next ≡ min (n + 1) (length rest) = omega arith in
    let after-is : drop (at + next) text ≡ after_line rest =
    sym (drop-drop next at text)
    ∙ ap (λ (k : ℕ). drop k rest) next-at
    ∙ drop_min (n + 1) rest
    ∙ ap (λ (k : ℕ). drop (k + 1) rest) n-is in
    record {
      begins = refl;
      in_order = (omega arith, omega arith);
      takes_bytes = (omega arith, omega arith);
      line = slice-is ∙ line-first;
      rest = after-is;
      lines = lines_first rest (omega arith)
          ∙ ap (λ (l : List ℕ). l ∷ lines (after_line rest)) (sym (slice-is ∙ line-first))
          ∙ ap (λ (r : List ℕ). slice_range text at (at + length line) ∷ lines r) (sym after-is);
    }

-- `strip_suffix` of a carriage return; the line itself where it has none
last-of : (b c : ℕ) (bs : List ℕ) → drop (length (b ∷ c ∷ bs) - 1) (b ∷ c ∷ bs) ≡ drop (length (c ∷ bs) - 1) (c ∷ bs)
last-of b c bs = let e : length (b ∷ c ∷ bs) - 1 ≡ suc (length (c ∷ bs) - 1) = omega arith in rw e refl

front-of : (b c : ℕ) (bs : List ℕ)
    → take (length (b ∷ c ∷ bs) - 1) (b ∷ c ∷ bs) ≡ b ∷ take (length (c ∷ bs) - 1) (c ∷ bs)
front-of b c bs = let e : length (b ∷ c ∷ bs) - 1 ≡ suc (length (c ∷ bs) - 1) = omega arith in rw e refl

return-stripped : (xs : List ℕ) → pointwise eqb (drop (length xs - 1) xs) (13 ∷ []) ≡ true
    → take (length xs - 1) xs ≡ without_return xs
return-stripped [] h = refl
return-stripped (b ∷ []) h =
    let e : eqb b 13 ≡ true = grind (arith, nat_tests) in rw (cond-true _ _ _ e) refl
return-stripped (b ∷ c ∷ bs) h =
    let g : pointwise eqb (drop (length (c ∷ bs) - 1) (c ∷ bs)) (13 ∷ []) ≡ true =
    ap (λ (l : List ℕ). pointwise eqb l (13 ∷ [])) (sym (last-of b c bs)) ∙ h in
    front-of b c bs ∙ ap (λ (r : List ℕ). b ∷ r) (return-stripped (c ∷ bs) g)

return-kept : (xs : List ℕ) → pointwise eqb (drop (length xs - 1) xs) (13 ∷ []) ≡ false → xs ≡ without_return xs
return-kept [] h = refl
return-kept (b ∷ []) h =
    let e : eqb b 13 ≡ false = grind (arith, nat_tests) in rw (cond-false _ _ _ e) refl
return-kept (b ∷ c ∷ bs) h =
    let g : pointwise eqb (drop (length (c ∷ bs) - 1) (c ∷ bs)) (13 ∷ []) ≡ false =
    ap (λ (l : List ℕ). pointwise eqb l (13 ∷ [])) (sym (last-of b c bs)) ∙ h in
    ap (λ (r : List ℕ). b ∷ r) (return-kept (c ∷ bs) g)

-- `strip_suffix` of a carriage return; the line itself where it has none
pub return_stripped : (xs : Bor (List ℕ)) (r : Option (Bor (List ℕ))) →
    MatchOption r (pointwise eqb (drop (length xs.now - 1) xs.now) (13 ∷ []) ≡ false)
    (λ x. (pointwise eqb (drop (length xs.now - 1) xs.now) (13 ∷ []) ≡ true) × (x.now ≡ take (length xs.now - 1) xs.now)
    × (length x.now + 1 ≡ length xs.now)) →
    (unwrap_or r xs).now ≡ without_return xs.now
return_stripped xs None h = return-kept xs.now h
return_stripped xs (Some x) h = h.1 ∙ return-stripped xs.now h.0

-- what `position` returns
pub position_some : (p : ℕ → Bool) (xs : List ℕ) (n : ℕ) → position p xs ≡ Some n → (n ≡ position_or_len p xs)
    × (n < length xs)
position_some p xs n h = (grind (arith, nat_tests), grind (arith, nat_tests))

pub position_none : (p : ℕ → Bool) (xs : List ℕ) → position p xs ≡ None → position_or_len p xs ≡ length xs
position_none p xs h = let le = prefix_len-le-length (λ x. not (p x)) xs in grind (arith, nat_tests)

not_not-false : (b : Bool) → not (not b) ≡ false → b ≡ false
not_not-false true h = absurd (false≢true (sym h))
not_not-false false h = refl

words-blank : (b : ℕ) (bs : List ℕ) → is_blank b ≡ true → words (b ∷ bs) ≡ words bs
words-blank b bs e = cond-true _ _ _ e

words-last : (b : ℕ) (bs : List ℕ) → is_blank b ≡ false → word_ends bs ≡ true → words (b ∷ bs) ≡ (b ∷ []) ∷ words bs
words-last b bs e l = cond-false _ _ _ e ∙ cond-true _ _ _ l

words-more : (b : ℕ) (bs : List ℕ) → is_blank b ≡ false → word_ends bs ≡ false
    → words (b ∷ bs) ≡ onto_first b (words bs)
words-more b bs e l = cond-false _ _ _ e ∙ cond-false _ _ _ l

skip-yes : (p : ℕ → Bool) (b : ℕ) (bs : List ℕ) → p b ≡ false
    → drop (position_or_len p (b ∷ bs)) (b ∷ bs) ≡ drop (position_or_len p bs) bs
skip-yes p b bs e = grind (arith, common_steps, nat_tests)

skip-no : (p : ℕ → Bool) (b : ℕ) (bs : List ℕ) → p b ≡ true → drop (position_or_len p (b ∷ bs)) (b ∷ bs) ≡ b ∷ bs
skip-no p b bs e = grind (arith, common_steps, nat_tests)

-- blanks at the front are skipped
pub words_skip : (xs : List ℕ) → words xs ≡ words (drop (position_or_len (λ b. not (is_blank b)) xs) xs)
words_skip [] = refl
words_skip (b ∷ bs) =
    elim (cases_Bool (is_blank b)) [
      | inl e ↦ rw (words-blank b bs e, skip-yes (λ b. not (is_blank b)) b bs (ap not e)) (words_skip bs)
      | inr e ↦ ap words (sym (skip-no (λ b. not (is_blank b)) b bs (ap not e)))
    ]

-- a word goes up to the next blank
pub words_first : (b : ℕ) (bs : List ℕ) → is_blank b ≡ false
    → words (b ∷ bs) ≡ before_first is_blank (b ∷ bs) ∷ words (drop (position_or_len is_blank (b ∷ bs)) (b ∷ bs))
words_first b [] e = rw (words-last b [] e refl, before-no is_blank b [] e, skip-yes is_blank b [] e) refl
words_first b (c ∷ cs) e =
    elim (cases_Bool (is_blank c)) [
      | inl f ↦ rw (
        words-last b (c ∷ cs) e f,
        before-no is_blank b (c ∷ cs) e,
        skip-yes is_blank b (c ∷ cs) e,
        before-yes is_blank c cs f,
        skip-no is_blank c cs f,
      ) refl
      | inr f ↦ rw (words-more b (c ∷ cs) e f, before-no is_blank b (c ∷ cs) e, skip-yes is_blank b (c ∷ cs) e)
          (ap (onto_first b) (words_first c cs f))
    ]

-- bytes of a word: none is a blank
abbrev pub AreSolid : List ℕ → Type 0
AreSolid bs = AllByRecursion (λ (b : ℕ). is_blank b ≡ false) bs

-- a word is followed by a blank or by the end of the line
pub word_read : (w rest : List ℕ) → 0 < length w → AreSolid w → word_ends rest ≡ true
    → words (w ++ rest) ≡ w ∷ words rest
word_read [] rest l s e = absurd (omega (arith, l))
word_read (b ∷ []) rest l s e = words-last b rest s.0 e
word_read (b ∷ d ∷ w) rest l s e = words-more b (d ∷ w ++ rest) s.0 s.1.0
    ∙ ap (onto_first b) (word_read (d ∷ w) rest (omega arith) s.1 e)

-- the first word of a line, and what follows it
pub word_split : (line rest word after : List ℕ) (n m : ℕ) → position (λ b. not (is_blank b)) line ≡ Some n
    → rest ≡ drop n line → m ≡ position_or_len is_blank rest → word ≡ take m rest → after ≡ drop m rest
    → words line ≡ word ∷ words after
word_split line rest word after n m begins r m-is w a =
    let found = position_some (λ b. not (is_blank b)) line n begins in
    let b = get_or line n 0 in
    let bs = drop (n + 1) line in
    let here : is_blank b ≡ false =
    subst (λ (k : ℕ). is_blank (get_or line k 0) ≡ false) (sym found.0)
    (not_not-false _ (prefix_len_stops (λ b. not (not (is_blank b))) line 0 (omega arith))) in
    let whole : rest ≡ b ∷ bs = r ∙ drop_more line n 0 found.1 in
    let one : words rest ≡ take m rest ∷ words (drop m rest) =
    subst (λ (k : ℕ). words rest ≡ take k rest ∷ words (drop k rest)) (sym m-is)
    (subst (λ (x : List ℕ).
    words x ≡ take (position_or_len is_blank x) x ∷ words (drop (position_or_len is_blank x) x)) (sym whole)
    (words_first b bs here)) in
    words_skip line
    ∙ ap (λ (k : ℕ). words (drop k line)) (sym found.0)
    ∙ ap words (sym r)
    ∙ one
    ∙ ap (λ (x : List ℕ). x ∷ words (drop m rest)) (sym w)
    ∙ ap (λ (x : List ℕ). word ∷ words x) (sym a)

-- where no word begins there are no words
pub no_words : (xs : List ℕ) → position (λ b. not (is_blank b)) xs ≡ None → words xs ≡ []
no_words xs h =
    let all = position_none (λ b. not (is_blank b)) xs h in
    words_skip xs ∙ ap (λ (k : ℕ). words (drop k xs)) all ∙ ap words (drop_all (length xs) xs (omega arith))

-- a line is kept by the first byte of its first word
pub kept_by_first : (line : List ℕ) (n : ℕ) → position (λ b. not (is_blank b)) line ≡ Some n
    → is_kept (words line) ≡ not (eqb (get_or line n 0) 35)
kept_by_first line n h =
    let found = position_some (λ b. not (is_blank b)) line n h in
    let b = get_or line n 0 in
    let bs = drop (n + 1) line in
    let here : is_blank b ≡ false = subst (λ (k : ℕ). is_blank (get_or line k 0) ≡ false) (sym found.0)
    (not_not-false _ (prefix_len_stops (λ b. not (not (is_blank b))) line 0 (omega arith))) in
    ap is_kept
    (words_skip line
    ∙ ap (λ (k : ℕ). words (drop k line)) (sym found.0)
    ∙ ap words (drop_more line n 0 found.1)
    ∙ words_first b bs here
    ∙ ap (λ (w : List ℕ). w ∷ words (drop (position_or_len is_blank (b ∷ bs)) (b ∷ bs))) (before-no is_blank b bs here))
