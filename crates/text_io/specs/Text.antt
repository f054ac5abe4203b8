-- Lines, words and integers of a text, as bytes.
use Rattle.std.specs.Prelude.{ℕ, ◌+◌, ◌*◌, ◌-◌, ◌≡◌, ◌<◌, ◌≤◌, drop, slice_range, nat_abs, Bool, true, false, not, ◌&&◌, ◌||◌, List, [], ◌∷◌, map, length, ℤ, pos, neg_ℤ, Option, None, Some, if◌then◌else◌, ◌==◌, nat_le}
use Rattle.std.specs.List.{list_all, before_first, after_first}
use Rattle.std.specs.Option.{option_map}
use Rattle.fku_types.specs.declared.limits.TheConstants.{MAX_NUMBER}
use Rattle.text_io.specs.declared.text.Number.{Number}
use Rattle.text_io.specs.declared.text.Number.TheVariants.{Value, Far}

-- a line feed
abbrev pub is_feed : ℕ → Bool
is_feed b = b == 10

-- a space or a tab
abbrev pub is_blank : ℕ → Bool
is_blank b = (b == 32) || (b == 9)

-- one carriage return at the end is dropped
abbrev pub without_return : List ℕ → List ℕ
without_return [] = []
without_return (b ∷ []) = if b == 13 then [] else b ∷ []
without_return (b ∷ c ∷ bs) = b ∷ without_return (c ∷ bs)

-- the byte is put at the front of the first part, or is a part of its own where there is none
abbrev pub onto_first : ℕ → List (List ℕ) → List (List ℕ)
onto_first b [] = (b ∷ []) ∷ []
onto_first b (part ∷ parts) = (b ∷ part) ∷ parts

-- the parts that end with a line feed or with the end of the text; an empty last part is not counted
abbrev pub fed_lines : List ℕ → List (List ℕ)
fed_lines [] = []
fed_lines (b ∷ bs) = if is_feed b then [] ∷ fed_lines bs else onto_first b (fed_lines bs)

-- the lines of a text
abbrev pub lines : List ℕ → List (List ℕ)
lines text = map without_return (fed_lines text)

-- the first line of a nonempty text, and the text after it
abbrev pub first_line : List ℕ → List ℕ
first_line text = without_return (before_first is_feed text)

abbrev pub after_line : List ℕ → List ℕ
after_line text = after_first is_feed text

-- a word ends here: a blank follows, or nothing
abbrev pub word_ends : List ℕ → Bool
word_ends [] = true
word_ends (b ∷ bs) = is_blank b

-- the words of a line: its longest runs of bytes that are not blanks
abbrev pub words : List ℕ → List (List ℕ)
words [] = []
words (b ∷ bs) = if is_blank b then words bs
    else (if word_ends bs then (b ∷ []) ∷ words bs else onto_first b (words bs))

-- a line is kept when it is neither empty nor a comment
abbrev pub begins_comment : List ℕ → Bool
begins_comment [] = false
begins_comment (b ∷ bs) = b == 35

abbrev pub is_kept : List (List ℕ) → Bool
is_kept [] = false
is_kept (word ∷ more) = not (begins_comment word)

-- the kept lines of lines that are numbered from n on, each with its number and its words
abbrev pub kept_from : ℕ → List (List ℕ) → List (ℕ × List (List ℕ))
kept_from n [] = []
kept_from n (line ∷ more) =
    if is_kept (words line) then (n, words line) ∷ kept_from (n + 1) more else kept_from (n + 1) more

-- the kept lines of a text, numbered from 1 on over all its lines
abbrev pub kept_lines : List ℕ → List (ℕ × List (List ℕ))
kept_lines text = kept_from 1 (lines text)

abbrev pub is_digit : ℕ → Bool
is_digit b = nat_le 48 b && nat_le b 57

-- one or more digits
abbrev pub are_digits : List ℕ → Bool
are_digits [] = false
are_digits (b ∷ bs) = list_all is_digit (b ∷ bs)

-- the value of digits that follow a number n
abbrev pub value_after : ℕ → List ℕ → ℕ
value_after n [] = n
value_after n (b ∷ bs) = value_after (10 * n + (b - 48)) bs

-- the value of a word that has only digits; none for any other word
abbrev pub digits_of : List ℕ → Option ℕ
digits_of word = if are_digits word then Some (value_after 0 word) else None

-- the number with this sign
abbrev pub signed : Bool → ℕ → ℤ
signed negative n = if negative then neg_ℤ (pos n) else pos n

-- the value of an integer, an optional minus and one or more digits; none for any other word
abbrev pub number_of : List ℕ → Option ℤ
number_of [] = None
number_of (b ∷ bs) =
    if b == 45 then option_map (signed true) (digits_of bs) else option_map (signed false) (digits_of (b ∷ bs))

-- The line that begins at a byte goes from first to before end, and the following one begins at next.
pub record IsLineAt (text : List ℕ) (at first end next : ℕ) : Type 0 where
  pub begins : first ≡ at
  pub in_order : (first ≤ end) × (end ≤ next)
  pub takes_bytes : (at < next) × (next ≤ length text)
  pub line : slice_range text first end ≡ first_line (drop at text)
  pub rest : drop next text ≡ after_line (drop at text)
  pub lines : lines (drop at text) ≡ slice_range text first end ∷ lines (drop next text)

-- What a reader of an integer returns: its value, or far where it is too large in absolute value.
abbrev pub Reads : Option ℤ → Option Number → Type 0
Reads None None = Unit {0}
Reads None (Some n) = ⊥
Reads (Some z) None = ⊥
Reads (Some z) (Some (Value n)) = (n ≡ z) × (nat_abs z ≤ MAX_NUMBER)
Reads (Some z) (Some Far) = MAX_NUMBER < nat_abs z

-- The first kept line of a text from a byte on, after so many lines: its number, where its bytes lie, and where the
-- following line begins.
pub record IsKeptLineAt (text : List ℕ) (at passed number first end next : ℕ) : Type 0 where
  pub in_order : (at ≤ first) × (first ≤ end) × (end ≤ next) × (next ≤ length text)
  pub counted : (passed < number) × (number + at ≤ passed + next)
  pub is_kept : is_kept (words (slice_range text first end)) ≡ true
  pub kept : kept_from (passed + 1) (lines (drop at text)) ≡ (number, words (slice_range text first end))
      ∷ kept_from (number + 1) (lines (drop next text))
  pub lines : passed + length (lines (drop at text)) ≡ number + length (lines (drop next text))
