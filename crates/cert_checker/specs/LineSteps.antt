-- What the reader of a certificate's text has found so far.
use Rattle.std.specs.Fmt.{signed_decimal}
use Rattle.std.specs.Prelude.{ℕ, ◌≡◌, ◌+◌, ◌≤◌, ℤ, pos, Some, List, ◌∷◌, ◌++◌, map}
use Rattle.strip_graph.specs.Certificates.{IsModest}
use Rattle.strip_graph.specs.declared.tilings.Step.{Step}
use Rattle.text_io.specs.Text.{number_of}
use Rattle.text_io.specs.WordLists.{Word, Matches, Line}
use Rattle.cert_checker.specs.declared.reading.Head.{Head}
use Rattle.cert_checker.specs.CertTexts.{CertHead, head_line, word_line, row_line, rows_in, IsValueRow}

-- the word says this number, which is not too large in absolute value
abbrev pub IsValue : List ℕ → ℤ → Type 0
IsValue word z = (number_of word ≡ Some z) × IsModest z

-- the number after a keyword at the front of some words, and the words after it
pub record HasNumberAfter (ws : Line) (keyword : List ℕ) (z : ℤ) (more : Line) : Type 0 where
  pub word : List ℕ
  pub words : ws ≡ keyword ∷ word ∷ more
  pub says : number_of word ≡ Some z

-- the words do not begin with this keyword and such a number
abbrev pub NoneNamed : (ℤ → Type 0) → Line → List ℕ → Type 0
NoneNamed P ws keyword = (z : ℤ) (more : Line) → P z → HasNumberAfter ws keyword z more → ⊥

-- the numbers from least to most
abbrev pub IsBetween : ℕ → ℕ → ℤ → Type 0
IsBetween least most z = (n : ℕ) × (z ≡ pos n) × (least ≤ n) × (n ≤ most)

-- the first line as the code holds it
abbrev pub head_parts : Head → CertHead
head_parts h = record { pair = h.pair; rows = h.rows; cols = h.cols; cost = h.cost; start = h.start }

-- the words are those of a row of so many numbers, which were appended to others
pub record PutsRow (ws : Line) (width : ℕ) (old new : List ℤ) : Type 0 where
  pub row : List ℤ
  pub put : new ≡ old ++ row
  pub is_row : IsValueRow width row
  pub match : Matches ws (row_line row)

-- the lines read up to a number of rows
abbrev pub first_lines : CertHead → List Step → ℕ → List ℤ → List (List Word)
first_lines h word k values = head_line h ∷ word_line word ∷ map row_line (rows_in (h.cols + 1) k values)

-- a number with a blank before it
abbrev pub after_blank : ℤ → List ℕ
after_blank z = 32 ∷ signed_decimal z
