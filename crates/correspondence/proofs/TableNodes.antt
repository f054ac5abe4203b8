-- The contours of a table as nodes: what is linked is adjacent, and what is connected is reached.
use Rattle.std.proofs.Common.{◌≡◌, inl, inr, ℕ, ◌+◌, ◌-◌, ◌<◌, nat_lt, not, ◌&&◌, Bool, true, false, cond, List, [], ◌∷◌, length, map, get_or, sym, ap, ◌∙◌, subst, arith}
use Rattle.std.proofs.Math.ListN.{get_or-eq_default}
use Rattle.std.proofs.lemmas.Bool.{cases_lt, and_parts, and_from, lt-ltb, le-ltb, cases_Bool, both_ways}
use Rattle.correspondence.specs.Components.{Member, Below, Above, AreLinked, Leads, AreConnected}
use Rattle.correspondence.specs.Graphs.{mark, cell, adjacent, LeadsAlong, Reaches, cell_links}
use Rattle.correspondence.proofs.Visiting.{mark_below}

-- ---- contours as nodes
abbrev pub node_of : ℕ → Member → ℕ
node_of n (Below i) = i
node_of n (Above j) = n + j

abbrev pub member_of : ℕ → ℕ → Member
member_of n k = cond (nat_lt k n) (Below k) (Above (k - n))

pub member_below : (n k : ℕ) → k < n → member_of n k ≡ Below k
member_below n k h = ap (λ (b : Bool). cond b (Below k) (Above (k - n))) (lt-ltb k n h)

pub member_above : (n k : ℕ) → member_of n (n + k) ≡ Above k
member_above n k =
    let e : n + k - n ≡ k = omega arith in
    ap (λ (b : Bool). cond b (Below (n + k)) (Above (n + k - n))) (le-ltb (n + k) n (omega arith)) ∙ ap Above e

-- a true cell is in the table
pub cell_row : (table : List (List Bool)) (i j : ℕ) → cell table i j ≡ true → (i < length table)
    × (j < length (get_or table i []))
cell_row table i j h = (
  elim (cases_lt i (length table)) [
    | inl l ↦ l
    | inr g ↦ absurd
        (both_ways (cell table i j) (ap (λ (r : List Bool). mark r j) (get_or-eq_default table [] g)) h)
  ],
  mark_below (get_or table i []) j h,
)

pub row_adjacent : (table : List (List Bool)) (i j : ℕ) → cell table i j ≡ true
    → adjacent table i (length table + j) ≡ true
row_adjacent table i j h =
    let n = length table in
    let e : n + j - n ≡ j = omega arith in
    ap (λ (b : Bool). cond b (not (nat_lt (n + j) n) && cell table i (n + j - n))
    (nat_lt (n + j) n && cell table (n + j) (i - n))) (lt-ltb i n (cell_row table i j h).0)
    ∙ and_from (not (nat_lt (n + j) n)) (cell table i (n + j - n)) (ap not (le-ltb (n + j) n (omega arith)))
    (ap (cell table i) e ∙ h)

column_adjacent : (table : List (List Bool)) (i j : ℕ) → cell table i j ≡ true
    → adjacent table (length table + j) i ≡ true
column_adjacent table i j h =
    let n = length table in
    let e : n + j - n ≡ j = omega arith in
    ap (λ (b : Bool). cond b (not (nat_lt i n) && cell table (n + j) (i - n)) (nat_lt i n && cell table i (n + j - n)))
    (le-ltb (n + j) n (omega arith))
    ∙ and_from (nat_lt i n) (cell table i (n + j - n)) (lt-ltb i n (cell_row table i j h).0) (ap (cell table i) e ∙ h)

linked_adjacent : (table : List (List Bool)) (x y : Member) → AreLinked (cell_links table) x y
    → adjacent table (node_of (length table) x) (node_of (length table) y) ≡ true
linked_adjacent table (Below i) (Above j) h = row_adjacent table i j h
linked_adjacent table (Above j) (Below i) h = column_adjacent table i j h
linked_adjacent table (Below i) (Below j) h = absurd h
linked_adjacent table (Above i) (Above j) h = absurd h

adjacent_linked : (table : List (List Bool)) (a b : ℕ) → adjacent table a b ≡ true
    → AreLinked (cell_links table) (member_of (length table) a) (member_of (length table) b)
adjacent_linked table a b h =
    let n = length table in
    let first : Bool = not (nat_lt b n) && cell table a (b - n) in
    let second : Bool = nat_lt b n && cell table b (a - n) in
    elim (cases_lt a n) [
      | inl l ↦
          let e = and_parts (not (nat_lt b n)) (cell table a (b - n))
          (sym (ap (λ (c : Bool). cond c first second) (lt-ltb a n l)) ∙ h) in
          let up : nat_lt b n ≡ false = elim (cases_Bool (nat_lt b n))
          [ inl t ↦ absurd (both_ways (not (nat_lt b n)) (ap not t) e.0) | inr f ↦ f ] in
          let x : member_of n a ≡ Below a = member_below n a l in
          let y : member_of n b ≡ Above (b - n) = ap (λ (c : Bool). cond c (Below b) (Above (b - n))) up in
          subst (λ (m : Member). AreLinked (cell_links table) m (member_of n b)) (sym x)
          (subst (AreLinked (cell_links table) (Below a)) (sym y) e.1)
      | inr g ↦
          let e = and_parts (nat_lt b n) (cell table b (a - n))
          (sym (ap (λ (c : Bool). cond c first second) (le-ltb a n g)) ∙ h) in
          let x : member_of n a ≡ Above (a - n) = ap (λ (c : Bool). cond c (Below a) (Above (a - n))) (le-ltb a n g) in
          let y : member_of n b ≡ Below b = ap (λ (c : Bool). cond c (Below b) (Above (b - n))) e.0 in
          subst (λ (m : Member). AreLinked (cell_links table) m (member_of n b)) (sym x)
          (subst (AreLinked (cell_links table) (Above (a - n))) (sym y) e.1)
    ]

leads_passes : (table : List (List Bool)) (x : Member) (via : List Member) (y : Member)
    → Leads (cell_links table) x via y
    → LeadsAlong (adjacent table) (node_of (length table) x) (map (node_of (length table)) via)
    (node_of (length table) y)
leads_passes table x [] y e = ap (node_of (length table)) e
leads_passes table x (w ∷ via) y p = (linked_adjacent table x w p.0, leads_passes table w via y p.1)

passes_leads : (table : List (List Bool)) (a : ℕ) (via : List ℕ) (b : ℕ) → LeadsAlong (adjacent table) a via b
    → Leads (cell_links table) (member_of (length table) a) (map (member_of (length table)) via)
    (member_of (length table) b)
passes_leads table a [] b e = ap (member_of (length table)) e
passes_leads table a (c ∷ via) b p = (adjacent_linked table a c p.0, passes_leads table c via b p.1)

pub connected_reaches : (table : List (List Bool)) (x y : Member) → AreConnected (cell_links table) x y
    → Reaches (adjacent table) (node_of (length table) x) (node_of (length table) y)
connected_reaches table x y h = (map (node_of (length table)) h.0, leads_passes table x h.0 y h.1)

pub reaches_connected : (table : List (List Bool)) (a b : ℕ) (x y : Member) → member_of (length table) a ≡ x
    → member_of (length table) b ≡ y → Reaches (adjacent table) a b → AreConnected (cell_links table) x y
reaches_connected table a b x y e f h =
    subst (λ (m : Member). AreConnected (cell_links table) m y) e
    (subst (AreConnected (cell_links table) (member_of (length table) a)) f
    (map (member_of (length table)) h.0, passes_leads table a h.0 b h.1))
