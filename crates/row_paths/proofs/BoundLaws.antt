-- How columns and bounds compare: what keeps a search within its rows, its tables and its count of steps.
use Rattle.std.proofs.Common.{◌≡◌, ℕ, ◌+◌, ◌-◌, ◌*◌, ◌<◌, ◌≤◌, min, max, List, length, get_or, arith}
use Rattle.row_paths.specs.Searches.{bound_at}
use Rattle.row_paths.proofs.Places.{bound_read}

-- two orders one after the other
pub lt_up : {a b c : ℕ} → a < b → b ≤ c → a < c
lt_up h k = omega arith

pub le_lt : {a b c : ℕ} → a ≤ b → b < c → a < c
le_lt h k = omega arith

pub lt_lt : {a b c : ℕ} → a < b → b < c → a < c
lt_lt h k = omega arith

pub le_le : {a b c : ℕ} → a ≤ b → b ≤ c → a ≤ c
le_le h k = omega arith

pub lt_le : {a b : ℕ} → a < b → a ≤ b
lt_le h = omega arith

pub lt_of_next : {a b : ℕ} → a + 1 ≤ b → a < b
lt_of_next h = omega arith

pub plus_less : (a : ℕ) → a < a + 1
plus_less a = omega arith

pub le_same : (a : ℕ) → a ≤ a
le_same a = omega arith

pub le_same_of : {a b : ℕ} → a ≤ b → b ≤ a → a ≡ b
le_same_of h k = omega arith

pub next_up : {a b : ℕ} → a ≤ b → a + 1 ≤ b + 1
next_up h = omega arith

pub next_le : {a b : ℕ} → a < b → a + 1 ≤ b
next_le h = omega arith

-- the same with an equal number
pub eq_up : {a b : ℕ} → a ≡ b → a ≤ b
eq_up e = omega arith

pub eq_le : {a b c : ℕ} → a ≡ b → b ≤ c → a ≤ c
eq_le e h = omega arith

pub le_to : {a b c : ℕ} → a ≤ b → b ≡ c → a ≤ c
le_to h e = omega arith

pub le_eq : {a b c : ℕ} → a ≤ b → c ≡ b → a ≤ c
le_eq h e = omega arith

pub lt_eq : {a b c : ℕ} → a < b → c ≡ b → a < c
lt_eq h e = omega arith

pub eq_lt : {a b c : ℕ} → a ≡ b → b < c → a < c
eq_lt e h = omega arith

-- some number is below another
pub some_of : {a b : ℕ} → a < b → 0 < b
some_of h = omega arith

pub back_in : {end len : ℕ} (k : ℕ) → end < len → end - 1 - k < len
back_in k h = omega arith

-- two numbers are not both equal and one below the other
pub none_less : {a b : ℕ} (x y : ℕ) → a < b → b ≡ a → x ≤ y
none_less x y h e = absurd (omega arith)

pub sum_eq : (s t c most : ℕ) → s ≡ t → t + c ≤ most → s + c ≤ most
sum_eq s t c most e h = omega arith

-- the bound of a row above the last one, as it is read
pub bound_next : (xs : List ℕ) (x x' end : ℕ) → x' ≡ x → x < end → end + 1 < length xs
    → bound_at xs (x + 1) ≡ get_or xs (x' + 1) 0
bound_next xs x x' end e lt fits = bound_read xs x x' e (omega arith)

-- the row is within the list
pub row_in : {x x' end len : ℕ} → x' ≡ x → x ≤ end → end + 1 < len → x' + 1 < len
row_in e le fits = omega arith

-- a bound that is read is within a list with a place for each column
pub bound_in : {b h n len : ℕ} → b ≡ h → b ≤ n → n < len → h < len
bound_in e within lt = omega arith

pub bound_upto : {b h n : ℕ} → b ≡ h → b ≤ n → h ≤ n
bound_upto e within = omega arith

pub max_sinks : (first b b' j : ℕ) → first ≡ max b' j → b ≤ b' → max b j ≤ first
max_sinks first b b' j e sinks = omega arith

pub max_up : {l j h : ℕ} → l ≤ h → j ≤ h → max l j ≤ h
max_up from left = omega arith

-- a column of a loop from right to left
pub col_below : {first last col : ℕ} → first < col → col ≤ last → col - 1 < last
col_below h k = omega arith

pub col_less : {first col : ℕ} → first < col → col - 1 < col
col_less h = omega arith

pub col_again : {first col : ℕ} → first < col → col ≡ col - 1 + 1
col_again h = omega arith

pub col_from : {b first col : ℕ} → b ≡ first → first < col → b ≤ col - 1
col_from e h = omega arith

pub col_low : {first col : ℕ} (last : ℕ) → first < col → min first last ≤ col - 1
col_low last h = omega arith

pub col_end : {b first col k : ℕ} → b ≡ first → b ≤ k → col ≤ first → col ≤ k
col_end e h k = omega arith

-- the loop's count of steps
pub left_one : (was steps one first last col : ℕ) → steps ≤ was + (last - col) → one ≡ steps + 1 → first < col
    → col ≤ last → one ≤ was + (last - (col - 1))
left_one was steps one first last col count tick from to = omega arith

pub left_two : (was steps one two first last col : ℕ) → steps ≤ was + 2 * (last - col) → one ≡ steps + 1 → two ≡ one + 1
    → first < col → col ≤ last → two ≤ was + 2 * (last - (col - 1))
left_two was steps one two first last col count tick tick' from to = omega arith

pub left_all : (was steps first last col b b' : ℕ) → steps ≤ was + 2 * (last - col) → min first last ≤ col → b ≡ first
    → b' ≡ last → steps ≤ was + 2 * (b' - b)
left_all was steps first last col b b' count low e e' = omega arith

pub left_done : (was steps first last col : ℕ) → steps ≤ was + (last - col) → min first last ≤ col
    → steps ≤ was + (last - first)
left_done was steps first last col count low = omega arith

pub one_step : (was steps : ℕ) → steps ≡ was + 1 → steps ≤ was + 1
one_step was steps e = omega arith

-- the same from left to right
pub right_one : (was steps one first col : ℕ) → steps ≤ was + (col - first) → one ≡ steps + 1 → first ≤ col
    → one ≤ was + (col + 1 - first)
right_one was steps one first col count tick from = omega arith

pub right_two : (was steps one two first col : ℕ) → steps ≤ was + 2 * (col - first) → one ≡ steps + 1 → two ≡ one + 1
    → first ≤ col → two ≤ was + 2 * (col + 1 - first)
right_two was steps one two first col count tick tick' from = omega arith

-- the count of steps of one more row, by the area of the rows
pub first_count : (was steps l h j area : ℕ) → steps ≤ was + (h - j) → area ≡ h + 1 - max l j → l ≤ j
    → steps ≤ was + 2 * area
first_count was steps l h j area count e from = omega arith

pub more_count : (was old new d d' area area' : ℕ) → old ≤ was + 2 * area → new ≤ old + 2 * d' → area' ≡ area + d
    → d ≡ d' → new ≤ was + 2 * area'
more_count was old new d d' area area' count count' e e' = omega arith

pub count_to : (was steps area area' : ℕ) → steps ≤ was + 2 * area → area ≡ area' → steps ≤ was + 2 * area'
count_to was steps area area' count e = omega arith
