-- Lines of two short numbers.
use Rattle.std.specs.Prelude.{◌≡◌, ℕ, ℤ, ◌<◌, ◌≤◌, ◌&&◌, ⊤, Bool, true, false, List, [], ◌∷◌, ◌++◌, length, Some, if◌then◌else◌}
use Rattle.std.specs.List.{AllByRecursion}
use Rattle.text_io.specs.Text.{words, is_blank, is_digit, are_digits, value_after, signed, number_of}
use Rattle.section_core.specs.Machine.{item_of, point}
use Rattle.section_core.specs.Steps.{is_coordinate}

-- a text begins with digits that are this number in range, with a sign, and this follows
pub record AreDigitsBefore (text : List ℕ) (negative : Bool) (n : ℤ) (rest : List ℕ) : Type 0 where
  pub digits : List ℕ
  pub whole : text ≡ digits ++ rest
  pub are : are_digits digits ≡ true
  pub value : n ≡ signed negative (value_after 0 digits)
  pub in_range : is_coordinate n ≡ true

-- a text begins with a word that is this number in range, and this follows
pub record IsNumberBefore (text : List ℕ) (n : ℤ) (rest : List ℕ) : Type 0 where
  pub word : List ℕ
  pub whole : text ≡ word ++ rest
  pub some : 0 < length word
  pub solid : AllByRecursion (λ (b : ℕ). is_blank b ≡ false) word
  pub number : number_of word ≡ Some n
  pub in_range : is_coordinate n ≡ true

-- a line says a point in range
pub record IsPlainPoint (line : List ℕ) (x y : ℤ) : Type 0 where
  pub said : item_of (words line) ≡ Some (point (x, y))
  pub in_range : (is_coordinate x && is_coordinate y) ≡ true

-- a number in its usual form: one to six digits, after a minus sign or without one
pub record IsShortNumber (word : List ℕ) : Type 0 where
  pub negative : Bool
  pub digits : List ℕ
  pub whole : word ≡ (if negative then 45 ∷ digits else digits)
  pub are : are_digits digits ≡ true
  pub few : length digits ≤ 6

-- two such numbers with one space between them
pub record IsShortPoint (line : List ℕ) : Type 0 where
  pub first : List ℕ
  pub second : List ℕ
  pub whole : line ≡ first ++ 32 ∷ second
  pub is_first : IsShortNumber first
  pub is_second : IsShortNumber second

-- no digit comes first
abbrev pub BeginsNoDigit : List ℕ → Type 0
BeginsNoDigit [] = ⊤
BeginsNoDigit (b ∷ text) = is_digit b ≡ false
