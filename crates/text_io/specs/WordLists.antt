-- Lines as lists of words: which lines of a text match them, and how they are written.
use Rattle.std.specs.Prelude.{ℕ, ◌≡◌, ◌<◌, ◌≤◌, ◌^◌, List, [], ◌∷◌, ◌++◌, map, length, ℤ, pos, unsigned_abs, Option, None, Some}
use Rattle.std.specs.List.{AllZip, AllByRecursion}
use Rattle.std.specs.Fmt.{signed_decimal}
use Rattle.text_io.specs.Text.{number_of}

-- a line, as its words
abbrev pub Line : Type 0
Line = List (List ℕ)

-- a kept line: its number in the text, and its words
abbrev pub Kept : Type 0
Kept = ℕ × Line

abbrev pub lines_of : List Kept → List Line
lines_of kept = map (λ k. k.1) kept

-- the number of the first kept line
abbrev pub first_number : List Kept → Option ℕ
first_number [] = None
first_number (k ∷ more) = Some k.0

-- what a word of a line has to be: these bytes, or an integer of this value
pub data Word : Type 0 where
  text : List ℕ → Word
  number : ℤ → Word

abbrev pub MatchesWord : List ℕ → Word → Type 0
MatchesWord bytes (text t) = bytes ≡ t
MatchesWord bytes (number n) = number_of bytes ≡ Some n

-- a line matches a word list: equally many words, each matching its own
abbrev pub Matches : List (List ℕ) → List Word → Type 0
Matches line pattern = AllZip MatchesWord line pattern

-- how a word is written: a number in decimal, without leading zeros
abbrev pub word_text : Word → List ℕ
word_text (text t) = t
word_text (number z) = signed_decimal z

-- one blank between words
abbrev pub spaced : List Word → List ℕ
spaced [] = []
spaced (w ∷ []) = word_text w
spaced (w ∷ v ∷ more) = word_text w ++ 32 ∷ spaced (v ∷ more)

-- a line feed after every line
abbrev pub line_text : List Word → List ℕ
line_text ws = spaced ws ++ 10 ∷ []

-- a word that can be read back: bytes from 36 on, which are neither blanks nor line ends and begin no comment; or a
-- number below 10 ^ 64 in absolute value
abbrev pub IsWritable : Word → Type 0
IsWritable (text t) = (0 < length t) × AllByRecursion (λ b. 36 ≤ b) t
IsWritable (number z) = unsigned_abs z < 10 ^ 64

-- a line of one or more such words
abbrev pub IsWritableLine : List Word → Type 0
IsWritableLine ws = (0 < length ws) × AllByRecursion IsWritable ws

-- the word says this integer, which is in its range
abbrev pub IsCount : List ℕ → ℕ → ℕ → ℕ → Type 0
IsCount word least most n = (number_of word ≡ Some (pos n)) × (least ≤ n) × (n ≤ most)

-- the first of some words says this integer, which is in its range, and these are the words after it
pub record IsFirstCount (ws : Line) (least most n : ℕ) (more : Line) : Type 0 where
  pub word : List ℕ
  pub words : ws ≡ word ∷ more
  pub says : IsCount word least most n
