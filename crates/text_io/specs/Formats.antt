-- Kinds of texts. A kind is what its texts can say, and the lines that say it: `Is` holds of all that a text can say,
-- and `form` has its lines, as word lists. Any other text has its fault at one line.
use Rattle.std.specs.Prelude.{ℕ, ◌≡◌, ◌⊎◌, ◌+◌, ◌≤◌, List, [], ◌∷◌, ◌++◌, length, drop}
use Rattle.std.specs.List.{AllZip}
use Rattle.text_io.specs.Text.{lines, kept_from}
use Rattle.text_io.specs.WordLists.{Word, Matches, Line, Kept, lines_of}

-- The kept lines are those of p.
pub record ReadsAs {P : Type 0} (Is : P → Type 0) (form : P → List (List Word)) (kept : List Kept) (p : P) : Type 0
  where
    pub lawful : Is p
    pub match : AllZip Matches (lines_of kept) (form p)

-- The lines match the first lines of one of this kind.
pub record BeginsAny {P : Type 0} (Is : P → Type 0) (form : P → List (List Word)) (lines : List Line) : Type 0 where
  pub says : P
  pub lawful : Is says
  pub front : List (List Word)
  pub rest : List (List Word)
  pub split : form says ≡ front ++ rest
  pub match : AllZip Matches lines front

-- Line n is the first kept line such that the kept lines up to and with it match the first lines of none.
pub record IsLineAtFault {P : Type 0} (Is : P → Type 0) (form : P → List (List Word)) (kept : List Kept)
    (n : ℕ) : Type 0 where
  pub before : List Kept
  pub line : Line
  pub after : List Kept
  pub split : kept ≡ before ++ (n, line) ∷ after
  pub begins : BeginsAny Is form (lines_of before)
  pub none : BeginsAny Is form (lines_of before ++ line ∷ []) → ⊥

-- No kept line is at fault, but the lines are those of none; n is one past the last line of the input.
pub record StopsTooSoon {P : Type 0} (Is : P → Type 0) (form : P → List (List Word)) (kept : List Kept)
    (last n : ℕ) : Type 0 where
  pub past : n ≡ last + 1
  pub begins : BeginsAny Is form (lines_of kept)
  pub none : (p : P) → ReadsAs Is form kept p → ⊥

-- A text of these kept lines, in an input of which this is the last line, has its fault at line n.
abbrev pub HasLineFault : {P : Type 0} → (P → Type 0) → (P → List (List Word)) → List Kept → ℕ → ℕ → Type 0
HasLineFault Is form kept last n = IsLineAtFault Is form kept n ⊎ StopsTooSoon Is form kept last n

-- the kept lines of a text after so many lines of its input, with their numbers in the input
abbrev pub kept_behind : ℕ → List ℕ → List Kept
kept_behind passed text = kept_from (passed + 1) (lines text)

-- the number of the text's last line in the input
abbrev pub last_line : ℕ → List ℕ → ℕ
last_line passed text = passed + length (lines text)

-- The lines of a text, after so many lines, were read up to a byte and a number, and match these.
pub record HasRead (passed : ℕ) (text : List ℕ) (at n : ℕ) (read : List (List Word)) : Type 0 where
  pub within : at ≤ length text
  pub counted : n ≤ passed + at
  pub left : n + length (lines (drop at text)) ≡ passed + length (lines text)
  pub before : List Kept
  pub split : kept_from (passed + 1) (lines text) ≡ before ++ kept_from (n + 1) (lines (drop at text))
  pub match : AllZip Matches (lines_of before) read
