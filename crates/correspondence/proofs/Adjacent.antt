-- Which nodes are adjacent, by the cells of rows.
use Rattle.std.proofs.Common.{◌≡◌, inl, inr, ℕ, zero, suc, ◌+◌, ◌-◌, ◌<◌, ◌≤◌, nat_lt, not, ◌&&◌, Bool, true, cond, List, [], ◌∷◌, length, get_or, refl, sym, ap, ◌∙◌, subst, arith, Vec, All}
use Rattle.std.specs.Global.{Global}
use Rattle.std.proofs.lemmas.Bool.{cases_lt, and_parts, both_ways, lt-ltb, le-ltb, ltb-true}
use Rattle.std.proofs.lemmas.List.{length-map}
use Rattle.correspondence.specs.Graphs.{table_of, cell, adjacent}
use Rattle.correspondence.proofs.Visiting.{mark_below}

-- the row at a place
pub row_of : (rows : List (Vec Bool Global)) (i : ℕ) → i < length rows → (v : Vec Bool Global)
    × (get_or (table_of rows) i [] ≡ v.items) × ((d : Vec Bool Global) → get_or rows i d ≡ v)
row_of [] i h = absurd (omega arith)
row_of (v ∷ rows) zero h = (v, refl, λ d. refl)
row_of (v ∷ rows) (suc i) h = row_of rows i (omega arith)

-- what holds of each row holds of the row at a place
pub each_row : (P : List Bool → Type 0) (rows : List (Vec Bool Global)) (i : ℕ) → All (λ v. P v.items) rows
    → i < length rows → P (get_or (table_of rows) i [])
each_row P rows i h l =
    let r = row_of rows i l in
    subst P (sym r.1) (subst (λ (v : Vec Bool Global). P v.items) (r.2 r.0) (h i r.0 l))

pub adjacent_bound : (rows : List (Vec Bool Global)) (n : ℕ) → All (λ v. length rows + length v.items ≡ n) rows
    → (a b : ℕ) → adjacent (table_of rows) a b ≡ true → b < n
adjacent_bound rows n h a b j =
    let table = table_of rows in
    let L : ℕ = length table in
    let count : L ≡ length rows = length-map rows (λ (v : Vec Bool Global). v.items) in
    let first : Bool = not (nat_lt b L) && cell table a (b - L) in
    let second : Bool = nat_lt b L && cell table b (a - L) in
    elim (cases_lt a L) [
      | inl l ↦
          let e : first ≡ true = sym (ap (λ (c : Bool). cond c first second) (lt-ltb a L l)) ∙ j in
          let inside = mark_below (get_or table a []) (b - L) (and_parts (not (nat_lt b L)) (cell table a (b - L)) e).1
          in
          let width : length rows + length (get_or table a []) ≡ n =
          each_row (λ r. length rows + length r ≡ n) rows a h (omega (arith, count)) in
          omega (arith, inside, width, count)
      | inr g ↦
          let e : second ≡ true = sym (ap (λ (c : Bool). cond c first second) (le-ltb a L g)) ∙ j in
          let below : b < L = ltb-true b L (and_parts (nat_lt b L) (cell table b (a - L)) e).0 in
          let width : length rows + length (get_or table b []) ≡ n =
          each_row (λ r. length rows + length r ≡ n) rows b h (omega (arith, count)) in
          omega (arith, below, width, count)
    ]

-- two nodes on one side of the gap are not adjacent
pub below_apart : (table : List (List Bool)) (a b : ℕ) → a < length table → b < length table → adjacent table a b ≡ true
    → ⊥
below_apart table a b h k r =
    let L : ℕ = length table in
    let first : Bool = not (nat_lt b L) && cell table a (b - L) in
    let second : Bool = nat_lt b L && cell table b (a - L) in
    let e : first ≡ true = sym (ap (λ (c : Bool). cond c first second) (lt-ltb a L h)) ∙ r in
    both_ways (not (nat_lt b L)) (ap not (lt-ltb b L k)) (and_parts (not (nat_lt b L)) (cell table a (b - L)) e).0

pub above_apart : (table : List (List Bool)) (a b : ℕ) → length table ≤ a → length table ≤ b → adjacent table a b ≡ true
    → ⊥
above_apart table a b h k r =
    let L : ℕ = length table in
    let first : Bool = not (nat_lt b L) && cell table a (b - L) in
    let second : Bool = nat_lt b L && cell table b (a - L) in
    let e : second ≡ true = sym (ap (λ (c : Bool). cond c first second) (le-ltb a L h)) ∙ r in
    both_ways (nat_lt b L) (le-ltb b L k) (and_parts (nat_lt b L) (cell table b (a - L)) e).0
