-- A table of costs that is filled row by row: the rows so far, in a vector that is written as a slice.
use Rattle.std.proofs.Common.{◌≡◌, ℕ, ◌+◌, ◌*◌, ◌<◌, ◌≤◌, List, ◌++◌, length, take, drop, map, ap, sym, subst, subst₂, ◌∙◌, arith, mul-le-mul_right}
use Rattle.std.proofs.lemmas.List.{take_all}
use Rattle.strip_graph.specs.Strips.{Strip}
use Rattle.row_paths.specs.StripCosts.{AreFirstCosts}
use Rattle.row_paths.proofs.AmountLaws.{written}

-- there is room for the next row
pub room_for : (r i m m' size len : ℕ) → r ≡ i → i < m' → m' ≡ m → len ≡ m * size → (r + 1) * size ≤ len
room_for r i m m' size len e lt is count =
    let more : r + 1 ≤ m = omega arith in
    omega (arith, count, mul-le-mul_right size more)

-- the rows so far, as they are passed on
pub rows_at : {C : Type 0} (value : C → ℕ) (b : ℕ) (cost : Strip → ℕ → ℕ → ℕ) (p q : Strip) (size i j : ℕ)
    (xs ys : List C) → p ≡ q → i ≡ j → xs ≡ ys → AreFirstCosts b (cost p) size (map value (take (i * size) xs))
    → AreFirstCosts b (cost q) size (map value (take (j * size) ys))
rows_at {C = C} value b cost p q size i j xs ys e f d all =
    subst₂ (λ (s : Strip) (k : ℕ). AreFirstCosts b (cost s) size (map value (take (k * size) ys))) e f
    (subst (λ (l : List C). AreFirstCosts b (cost p) size (map value (take (i * size) l))) d all)

-- one more row
pub next_count : {C : Type 0} (new from old : List C) (len n : ℕ) → length new ≡ length from → from ≡ old
    → length from ≡ len → length old ≡ n → length (take len (new ++ drop (length new) old)) ≡ n
next_count new from old len n e f size count = ap length (written new old len (sym (e ∙ size))) ∙ e ∙ ap length f
    ∙ count

pub next_rows : {C : Type 0} (value : C → ℕ) (b : ℕ) (cost : Strip → ℕ → ℕ → ℕ) (p q : Strip) (size i j : ℕ)
    (new from old : List C) (len : ℕ) → length new ≡ length from → length from ≡ len → p ≡ q → i ≡ j
    → AreFirstCosts b (cost p) size (map value (take ((i + 1) * size) new))
    → AreFirstCosts b (cost q) size (map value (take ((j + 1) * size) (take len (new ++ drop (length new) old))))
next_rows value b cost p q size i j new from old len e size' same row all =
    rows_at value b cost p q size (i + 1) (j + 1) new (take len (new ++ drop (length new) old)) same
    (ap (λ (k : ℕ). k + 1) row) (sym (written new old len (sym (e ∙ size')))) all

pub next_steps : (was old new row size : ℕ) → old ≤ was + row * size → new ≤ old + size → new ≤ was + (row + 1) * size
next_steps was old new row size count count' = omega (arith, count, count')

-- all rows
pub all_rows : {C : Type 0} (value : C → ℕ) (b : ℕ) (cost : ℕ → ℕ → ℕ) (size i m m' : ℕ) (xs : List C)
    → length xs ≡ m * size → m' ≤ i → m' ≡ m → AreFirstCosts b cost size (map value (take (i * size) xs))
    → AreFirstCosts b cost size (map value xs)
all_rows {C = C} value b cost size i m m' xs count le is all =
    let more : m ≤ i = omega arith in
    subst (λ (l : List C). AreFirstCosts b cost size (map value l))
    (take_all (i * size) xs (omega (arith, count, mul-le-mul_right size more))) all

pub all_steps : (was steps row m m' size : ℕ) → steps ≤ was + row * size → row ≤ m' → m' ≡ m → steps ≤ was + m * size
all_steps was steps row m m' size count le is =
    let less : row ≤ m = omega arith in
    omega (arith, count, mul-le-mul_right size less)
