-- A column's numbers and costs, whose rows are counted from a turn's start.
use Rattle.std.proofs.Common.{◌≡◌, ℕ, zero, suc, ◌+◌, ◌-◌, ◌*◌, ◌/◌, ◌%◌, ◌<◌, ◌≤◌, ℤ, pos, neg_ℤ, ◌+ℤ◌, ◌*ℤ◌, ◌≤ℤ◌, List, length, take, drop, length-drop, get_or-take, get_or-drop, mul-le-mul_right, Bool, false, refl, subst, ap, sym, ◌∙◌, arith, inl, inr}
use Rattle.std.proofs.lemmas.Bool.{cases_lt}
use Rattle.std.proofs.lemmas.Int.{ints}
use Rattle.std.proofs.lemmas.List.{length-take-le}
use Rattle.std.proofs.lemmas.Nat.{mod_below, div-add-mod', mod-mul-add}
use Rattle.strip_graph.specs.declared.tilings.Step.{Step}
use Rattle.strip_graph.specs.declared.tilings.Step.TheVariants.{V, H}
use Rattle.strip_graph.specs.Words.{Arcs}
use Rattle.strip_graph.specs.Feasible.{IsRowPeriodic, lifted}
use Rattle.round_sweeps.specs.Columns.{start_limit, value_limit, at_row, table_at, AreRowsBounded, AreColumnCosts}
use Rattle.round_sweeps.specs.Tables.{AreColumnsInRange, IsSearchable}
use Rattle.round_sweeps.specs.Searches.{way_of, way_at, numbers_from, downs_from, rights_from, IsWindow, IsSearchInRange, IsBackColumn, IsSearchedTo, IsMet}
use Rattle.round_sweeps.proofs.BackLaws.{number_least}
use Rattle.round_sweeps.proofs.RoundLaws.{row_low}
use Rattle.round_sweeps.proofs.TraceLaws.{AreOfColumn, searched_first, searched_more}

-- a column that is cut out of a table
pub column_at : (m c at count : ℕ) (table : List ℤ) (r : ℕ) → at ≡ c * m → m ≤ count → r < m
    → at_row (take count (drop at table)) r ≡ table_at m table r c
column_at m c at count table r e le lt = get_or-take count (drop at table) r (pos 0) (omega (arith, lt, le))
    ∙ get_or-drop at table r (pos 0) ∙ ap (λ (x : ℕ). at_row table (x + r)) e

pub numbers_at : (m c : ℕ) (s : ℤ) (i : ℕ) (table column : List ℤ) → 0 < m
    → ((r : ℕ) → r < m → at_row column r ≡ table_at m table r c) → (k : ℕ)
    → numbers_from m s i column k ≡ lifted m s (table_at m table) (i + k) c
numbers_at m c s i table column some h k =
    ap (λ (x : ℤ). x +ℤ (pos ((i + k) / m) *ℤ s)) (h ((i + k) % m) (mod_below (i + k) m some))

-- costs repeat
arcs_turned : (a : Arcs) (m : ℕ) → IsRowPeriodic a m → (q k c : ℕ) (t : Step) → a (q * m + k) c t ≡ a k c t
arcs_turned a m p zero k c t = let e : zero * m + k ≡ k = omega arith in rw e refl
arcs_turned a m p (suc q) k c t = let e : suc q * m + k ≡ q * m + k + m = omega arith in
    rw e (p.row (q * m + k) c t ∙ arcs_turned a m p q k c t)

arcs_mod : (a : Arcs) (m : ℕ) → IsRowPeriodic a m → (r c : ℕ) (t : Step) → a (r % m) c t ≡ a r c t
arcs_mod a m p r c t = let e : r ≡ (r / m) * m + r % m = omega (arith, div-add-mod' r m) in
    sym (ap (λ (x : ℕ). a x c t) e ∙ arcs_turned a m p (r / m) (r % m) c t)

-- the row of the ring after a row
next_row : (m r : ℕ) → r % m + 1 < m → (r + 1) % m ≡ r % m + 1
next_row m r lt = let e : r + 1 ≡ (r / m) * m + (r % m + 1) = omega (arith, div-add-mod' r m) in ap (λ (x : ℕ). x % m) e
    ∙ mod-mul-add (r / m) m (r % m + 1) lt

next_turn : (m r : ℕ) → 0 < m → r % m + 1 ≡ m → (r + 1) % m ≡ 0
next_turn m r some is = let e : r + 1 ≡ (r / m + 1) * m + 0 = omega (arith, div-add-mod' r m, is) in
    ap (λ (x : ℕ). x % m) e ∙ mod-mul-add (r / m + 1) m 0 some

-- what V costs from a row
pub downs_at : (a : Arcs) (m c i : ℕ) (downs rights : ℕ → ℤ) → IsRowPeriodic a m → AreColumnCosts a m c downs rights
    → i < m → (k : ℕ) → downs_from m i downs k ≡ pos (a (i + k) c V)
downs_at a m c i downs rights p h lt k =
    let below : (i + k) % m < m = mod_below (i + k) m (omega (arith, lt)) in
    elim (cases_lt ((i + k) % m + 1) m) [
      | inl more ↦ ap downs (next_row m (i + k) more) ∙ h.down ((i + k) % m) more ∙ ap pos (arcs_mod a m p (i + k) c V)
      | inr last ↦ (let is : (i + k) % m + 1 ≡ m = omega (arith, last, below) in
          ap downs (next_turn m (i + k) (omega (arith, lt)) is) ∙ h.round ((i + k) % m) is
          ∙ ap pos (arcs_mod a m p (i + k) c V))
    ]

-- what H costs from a row, by the costs into the next column
pub rights_at : (a : Arcs) (m c i : ℕ) (downs rights : ℕ → ℤ) → IsRowPeriodic a m
    → AreColumnCosts a m (c + 1) downs rights → i < m → (k : ℕ) → rights_from m i rights k ≡ pos (a (i + k) c H)
rights_at a m c i downs rights p h lt k =
    h.right ((i + k) % m) c (mod_below (i + k) m (omega (arith, lt))) (omega arith)
    ∙ ap pos (arcs_mod a m p (i + k) c H)

-- no cost is negative
pub downs_least : (a : Arcs) (m c : ℕ) (downs rights : ℕ → ℤ) → AreColumnCosts a m c downs rights → (r : ℕ) → r < m
    → pos 0 ≤ℤ downs r
downs_least a m c downs rights h r lt =
    elim (cases_lt 0 r) [
      | inl some ↦ (let e : r ≡ r - 1 + 1 = omega (arith, some) in
          omega (arith, ints, ap downs e, h.down (r - 1) (omega (arith, some, lt))))
      | inr none ↦ (let e : r ≡ 0 = omega (arith, none) in
          omega (arith, ints, ap downs e, h.round (m - 1) (omega (arith, lt))))
    ]

pub rights_least : (a : Arcs) (m c : ℕ) (downs rights : ℕ → ℤ) → AreColumnCosts a m (c + 1) downs rights → (r : ℕ)
    → r < m → pos 0 ≤ℤ rights r
rights_least a m c downs rights h r lt = omega (arith, ints, h.right r c lt (omega arith))

pub of_column : (a : Arcs) (m h c : ℕ) (s : ℤ) (i : ℕ) (table column : List ℤ) (downs rights : ℕ → ℤ)
    → IsRowPeriodic a m → AreColumnCosts a m c downs rights → i < m → h < 2 * m → pos 0 ≤ℤ s → AreRowsBounded m column
    → ((r : ℕ) → r < m → at_row column r ≡ table_at m table r c)
    → AreOfColumn a (lifted m s (table_at m table)) i h c (numbers_from m s i column) (downs_from m i downs)
of_column a m h c s i table column downs rights p costs lt low least b same = record {
  numbers_are = λ k le. numbers_at m c s i table column (omega (arith, lt)) same k;
  least = λ k le. number_least m s i column lt b least k (omega (arith, le, low));
  downs_are = λ k less. downs_at a m c i downs rights p costs lt k;
}

pub bounded_take : (m : ℕ) (xs : List ℤ) → AreRowsBounded m xs → AreRowsBounded m (take m xs)
bounded_take m xs b = record {
  least = λ r lt. omega (arith, ints, b.least r lt, get_or-take m xs r (pos 0) lt);
  most = λ r lt. omega (arith, ints, b.most r lt, get_or-take m xs r (pos 0) lt);
}

-- a column of a table has as many numbers as there are rows
pub column_length : (m c : ℕ) (table : List ℤ) → (c + 1) * m ≤ length table → length (take m (drop (c * m) table)) ≡ m
column_length m c table room = length-take-le m (drop (c * m) table) (omega (arith, length-drop (c * m) table, room))

-- the same costs, in a strip of as many rows
pub costs_at : (a : Arcs) (m m' c : ℕ) (downs rights : ℕ → ℤ) → m ≡ m' → AreColumnCosts a m' c downs rights
    → AreColumnCosts a m c downs rights
costs_at a m m' c downs rights e h = subst (λ (x : ℕ). AreColumnCosts a x c downs rights) (sym e) h

-- fewer columns are searched in range too
pub searchable_upto : (m n c : ℕ) (s : ℤ) (table : List ℤ) (i : ℕ) (limit : ℤ) → IsSearchable m n s table i limit
    → c ≤ n → IsSearchable m c s table i limit
searchable_upto m n c s table i limit q le = record {
  table_fits = record {
    few_rows = t.few_rows;
    few_cols = omega (arith, le, t.few_cols);
    room = (let up : c + 1 ≤ n + 1 = omega (arith, le) in omega (arith, mul-le-mul_right m up, t.room));
    inside = λ k in'. t.inside k (omega (arith, in', le));
    round_least = t.round_least;
    round_most = t.round_most;
  };
  start = q.start;
  limit_least = q.limit_least;
  limit_most = q.limit_most;
}
  where
    t : AreColumnsInRange m n s table
    t = q.table_fits

-- and so is a column that is cut out of the table
pub column_in_range : (m c h : ℕ) (s : ℤ) (table : List ℤ) (i : ℕ) (limit : ℤ) → IsSearchable m c s table i limit
    → h < 2 * m → IsSearchInRange i h s limit (take m (drop (c * m) table))
column_in_range m c h s table i limit q low = record {
  start = rw count q.start;
  few = rw count t.few_rows;
  height = rw count low;
  bounded = rw count (bounded_take m (drop (c * m) table) (t.inside c (omega arith)));
  round_least = t.round_least;
  round_most = t.round_most;
  limit_least = q.limit_least;
  limit_most = q.limit_most;
}
  where
    t : AreColumnsInRange m c s table
    t = q.table_fits

    count : length (take m (drop (c * m) table)) ≡ m
    count = column_length m c table t.room

-- a column more of a search back
pub searched_back : (a : Arcs) (m n c0 : ℕ) (s : ℤ) (i : ℕ) (limit : ℤ) (table : List ℤ)
    (downs rights downs' rights' : ℕ → ℤ) (old new : List ℤ) (ways ways' : List Bool) → IsRowPeriodic a m
    → AreColumnCosts a m c0 downs rights → AreColumnCosts a m (c0 + 1) downs' rights' → i < m → c0 < n → pos 0 ≤ℤ s
    → AreRowsBounded m (drop (c0 * m) table)
    → IsSearchedTo a (lifted m s (table_at m table)) i m n limit (c0 + 1) old ways
    → IsBackColumn m limit (numbers_from m s i (take m (drop (c0 * m) table))) (downs_from m i downs)
    (rights_from m i rights') old new (drop (c0 * (m + 1)) ways')
    → ((k : ℕ) → (c0 + 1) * (m + 1) ≤ k → way_of ways' k ≡ way_of ways k)
    → IsSearchedTo a (lifted m s (table_at m table)) i m n limit c0 new ways'
searched_back a m n c0 s i limit table downs rights downs' rights' old new ways ways' p here next lt lt0 least b done h
    rest =
    searched_more a (lifted m s (table_at m table)) i m n c0 limit (numbers_from m s i (take m (drop (c0 * m) table)))
    (downs_from m i downs) (rights_from m i rights') old new (drop (c0 * (m + 1)) ways') ways ways'
    (of_column a m m c0 s i table (take m (drop (c0 * m) table)) downs rights p here lt (omega (arith, lt)) least
    (bounded_take m (drop (c0 * m) table) b) (λ r less. column_at m c0 (c0 * m) m table r refl (omega arith) less))
    (λ k le. rights_at a m c0 i downs' rights' p next lt k) lt0 done h
    (λ k le. get_or-drop (c0 * (m + 1)) ways' k false) after
  where
    after : (k c : ℕ) → k ≤ m → c0 < c → c ≤ n → way_at m ways' k c ≡ way_at m ways k c
    after k c le more to = rest (c * (m + 1) + k)
        (let up : c0 + 1 ≤ c = omega (arith, more) in omega (arith, mul-le-mul_right (m + 1) up))

-- the last column
pub searched_end : (a : Arcs) (m n : ℕ) (s : ℤ) (i : ℕ) (limit : ℤ) (table : List ℤ) (downs rights free : ℕ → ℤ)
    (old new : List ℤ) (ways' : List Bool) → IsRowPeriodic a m → AreColumnCosts a m n downs rights → i < m → pos 0 ≤ℤ s
    → limit ≤ℤ value_limit → AreRowsBounded m (drop (n * m) table)
    → IsWindow m m m old → ((r : ℕ) → free r ≡ pos 0)
    → IsBackColumn m limit (numbers_from m s i (take m (drop (n * m) table))) (downs_from m i downs)
    (rights_from m i free) old new (drop (n * (m + 1)) ways') → at_row new m ≡ pos 0
    → IsSearchedTo a (lifted m s (table_at m table)) i m n limit n new ways'
searched_end a m n s i limit table downs rights free old new ways' p here lt least small b w none h ended =
    searched_first a (lifted m s (table_at m table)) i m n limit (numbers_from m s i (take m (drop (n * m) table)))
    (downs_from m i downs) (rights_from m i free) old new (drop (n * (m + 1)) ways') ways'
    (of_column a m m n s i table (take m (drop (n * m) table)) downs rights p here lt (omega (arith, lt)) least
    (bounded_take m (drop (n * m) table) b) (λ r less. column_at m n (n * m) m table r refl (omega arith) less))
    small (λ k less. w.outside k (omega (arith, less)) (inl less)) (λ k le. none ((i + k) % m)) h ended
    (λ k le. get_or-drop (n * (m + 1)) ways' k false)

-- where the start is left, the search met it
pub met : (a : Arcs) (m n : ℕ) (s : ℤ) (i : ℕ) (limit : ℤ) (table sums : List ℤ) (ways : List Bool) → i < m
    → IsSearchedTo a (lifted m s (table_at m table)) i m n limit 0 sums ways
    → (at_row table i +ℤ at_row sums 0) ≤ℤ limit → IsMet a m n s table i limit ways
met a m n s i limit table sums ways lt h le = record {
  costs = h.costs;
  searched = h.searched;
  left = omega (arith, ints, le, h.are 0 (omega arith), here);
}
  where
    here : lifted m s (table_at m table) (i + 0) 0 ≡ at_row table i
    here = (let e : i + 0 ≡ i = omega arith in let d : 0 * m + i ≡ i = omega arith in
        ap (λ (x : ℕ). lifted m s (table_at m table) x 0) e ∙ row_low m s (λ r. table_at m table r 0) i lt
        ∙ ap (at_row table) d)

-- the same where the column is written in another way
pub searched_back_at : (a : Arcs) (m n k c0 : ℕ) (s : ℤ) (i : ℕ) (limit : ℤ) (table : List ℤ)
    (downs rights downs' rights' : ℕ → ℤ) (old new : List ℤ) (ways ways' : List Bool) → k ≡ c0 + 1 → IsRowPeriodic a m
    → AreColumnCosts a m c0 downs rights → AreColumnCosts a m (c0 + 1) downs' rights' → i < m → c0 < n → pos 0 ≤ℤ s
    → AreRowsBounded m (drop (c0 * m) table)
    → IsSearchedTo a (lifted m s (table_at m table)) i m n limit k old ways
    → IsBackColumn m limit (numbers_from m s i (take m (drop (c0 * m) table))) (downs_from m i downs)
    (rights_from m i rights') old new (drop (c0 * (m + 1)) ways')
    → ((k : ℕ) → (c0 + 1) * (m + 1) ≤ k → way_of ways' k ≡ way_of ways k)
    → IsSearchedTo a (lifted m s (table_at m table)) i m n limit c0 new ways'
searched_back_at a m n k c0 s i limit table downs rights downs' rights' old new ways ways' e p here next lt lt0 least b
    done =
    searched_back a m n c0 s i limit table downs rights downs' rights' old new ways ways' p here next lt lt0 least b
    (subst (λ (x : ℕ). IsSearchedTo a (lifted m s (table_at m table)) i m n limit x old ways) e done)

-- the number of a row in column 0
pub first_number : (m i : ℕ) (table : List ℤ) → i < m → AreRowsBounded m (drop (0 * m) table)
    → (neg_ℤ start_limit ≤ℤ at_row table i) × (at_row table i ≤ℤ value_limit)
first_number m i table lt b =
    let z : 0 * m + i ≡ i = omega arith in
    let e : at_row (drop (0 * m) table) i ≡ at_row table i = get_or-drop (0 * m) table i (pos 0)
    ∙ ap (at_row table) z in
    (omega (arith, ints, e, b.least i lt), omega (arith, ints, e, b.most i lt))
