-- A search back from the ends of many turns bounds the turns.
use Rattle.std.proofs.Common.{◌≡◌, ℕ, ◌+◌, ◌-◌, ◌*◌, ◌%◌, ◌<◌, ◌≤◌, ◌^◌, ℤ, pos, neg_ℤ, ◌+ℤ◌, ◌-ℤ◌, ◌≤ℤ◌, List, Bool, [], ◌∷◌, length, replicate, set, take, drop, get_or-take, get_or-drop, unsigned_abs, refl, ap, sym, subst, to_z, of_z, w64, ◌∙◌, arith, inl, inr}
use Rattle.std.proofs.lemmas.Bool.{cases_lt}
use Rattle.std.proofs.lemmas.Int.{ints, by_lt_z}
use Rattle.std.proofs.lemmas.List.{length-replicate, get_or-replicate}
use Rattle.strip_graph.specs.declared.tilings.Step.{Step}
use Rattle.strip_graph.specs.declared.tilings.Step.TheVariants.{V, H}
use Rattle.strip_graph.specs.Words.{Arcs, count_v, word_cost, HasLetters}
use Rattle.strip_graph.specs.Feasible.{IsForward, IsRowPeriodic, lifted, lifted_row}
use Rattle.strip_graph.proofs.WordLaws.{Periodic, word_cost-at, word_cost-row}
use Rattle.strip_graph.proofs.FeasibleRounds.{forward_of_round}
use Rattle.round_sweeps.specs.Columns.{at_row, table_at, AreRowsBounded, AreColumnCosts}
use Rattle.round_sweeps.specs.Tables.{IsTable, AreFitBounds}
use Rattle.round_sweeps.specs.Searches.{gone, AreSumsOf, numbers_from, downs_from, rights_from, IsBackColumn}
use Rattle.round_sweeps.specs.Bands.{IsBand, ended_cost}
use Rattle.round_sweeps.proofs.ColumnLaws.{zeroth, replaced}
use Rattle.round_sweeps.proofs.OfColumnLaws.{of_column, rights_at, bounded_take, column_at}
use Rattle.round_sweeps.proofs.RoundLaws.{ring_low, ring_high}
use Rattle.round_sweeps.proofs.TraceLaws.{AreOfColumn}

-- a letter V in front
down_more : (a : Arcs) (x : ℕ → ℤ) (phi : ℕ → ℕ → ℤ) (i h n c : ℕ) (limit : ℤ) (ends : ℕ → ℤ)
    (numbers downs rights : ℕ → ℤ) (old new : List ℤ) (ways : List Bool) → IsForward a n x phi
    → AreOfColumn a phi i h c numbers downs → IsBackColumn h limit numbers downs rights old new ways → c ≤ n
    → (k : ℕ) (w : List Step) → k + count_v (V ∷ w) ≤ h
    → ((phi (i + (k + 1)) c +ℤ ended_cost a i ends (k + 1) c w) ≤ℤ limit
    → at_row new (k + 1) ≤ℤ ended_cost a i ends (k + 1) c w)
    → (phi (i + k) c +ℤ ended_cost a i ends k c (V ∷ w)) ≤ℤ limit → at_row new k ≤ℤ ended_cost a i ends k c (V ∷ w)
down_more a x phi i h n c limit ends numbers downs rights old new ways f of b le k w in' rest p =
    let at : i + k + 1 ≡ i + (k + 1) = omega arith in
    let same : word_cost a (i + k + 1) c w ≡ word_cost a (i + (k + 1)) c w =
    word_cost-at a (i + k + 1) (i + (k + 1)) c c w at refl in
    let e : ends (k + (1 + count_v w)) ≡ ends (k + 1 + count_v w) = ap ends (omega arith) in
    let up : phi (i + (k + 1)) c ≤ℤ (phi (i + k) c +ℤ pos (a (i + k) c V)) =
    subst (λ (y : ℕ). phi y c ≤ℤ (phi (i + k) c +ℤ pos (a (i + k) c V))) at (f.down (i + k) c le) in
    let low = rest (omega (arith, ints, p, same, e, up)) in
    omega (
      arith,
      ints,
      same,
      e,
      low,
      of.downs_are k (omega (arith, in')),
      b.down k (omega arith) (omega (arith, in'))
          (omega (
            arith,
            ints,
            p,
            same,
            e,
            low,
            of.downs_are k (omega (arith, in')),
            of.numbers_are k (omega (arith, in')),
          )),
    )

-- the last column, where the sums were the numbers of the ends
pub band_first : (a : Arcs) (x : ℕ → ℤ) (phi : ℕ → ℕ → ℤ) (i h n : ℕ) (limit : ℤ) (numbers downs rights : ℕ → ℤ)
    (old new : List ℤ) (ways : List Bool) → IsForward a n x phi → AreOfColumn a phi i h n numbers downs
    → ((k : ℕ) → rights k ≡ pos 0) → IsBackColumn h limit numbers downs rights old new ways
    → IsBand a phi i h n limit n (at_row old) (at_row new)
band_first a x phi i h n limit numbers downs rights old new ways f of free b k [] in' e p =
    let d : at_row old (k + 0) ≡ at_row old k = ap (at_row old) (omega arith) in
    omega (
      arith,
      ints,
      d,
      free k,
      b.right k (omega arith) (omega (arith, in'))
          (omega (arith, ints, p, d, free k, of.numbers_are k (omega (arith, in')))),
    )
band_first a x phi i h n limit numbers downs rights old new ways f of free b k (V ∷ w) in' e p =
    down_more a x phi i h n n limit (at_row old) numbers downs rights old new ways f of b (omega arith) k w in'
    (band_first a x phi i h n limit numbers downs rights old new ways f of free b (k + 1) w (omega (arith, in')) e)
    p
band_first a x phi i h n limit numbers downs rights old new ways f of free b k (H ∷ w) in' e p =
    absurd (omega (arith, e))

-- one column more
pub band_more : (a : Arcs) (x : ℕ → ℤ) (phi : ℕ → ℕ → ℤ) (i h n c : ℕ) (limit : ℤ) (ends : ℕ → ℤ)
    (numbers downs rights : ℕ → ℤ) (old new : List ℤ) (ways : List Bool) → IsForward a n x phi
    → AreOfColumn a phi i h c numbers downs → ((k : ℕ) → rights k ≡ pos (a (i + k) c H)) → c < n
    → IsBand a phi i h n limit (c + 1) ends (at_row old) → IsBackColumn h limit numbers downs rights old new ways
    → IsBand a phi i h n limit c ends (at_row new)
band_more a x phi i h n c limit ends numbers downs rights old new ways f of right lt s b k [] in' e p =
    absurd (omega (arith, e, lt))
band_more a x phi i h n c limit ends numbers downs rights old new ways f of right lt s b k (V ∷ w) in' e p =
    down_more a x phi i h n c limit ends numbers downs rights old new ways f of b (omega (arith, lt)) k w in'
    (band_more a x phi i h n c limit ends numbers downs rights old new ways f of right lt s b (k + 1) w
    (omega (arith, in')) e) p
band_more a x phi i h n c limit ends numbers downs rights old new ways f of right lt s b k (H ∷ w) in' e p =
    let low = s k w in' (omega (arith, e)) (omega (arith, ints, p, f.right (i + k) c lt)) in
    omega (
      arith,
      ints,
      low,
      right k,
      b.right k (omega arith) (omega (arith, in'))
          (omega (arith, ints, p, low, right k, of.numbers_are k (omega (arith, in')))),
    )

-- both, by the columns of a strip
pub banded_first : (a : Arcs) (m n : ℕ) (s : ℤ) (i h : ℕ) (limit : ℤ) (table : List ℤ) (downs rights free : ℕ → ℤ)
    (old new : List ℤ) (ways : List Bool) → IsRowPeriodic a m → IsTable a m n s table
    → AreColumnCosts a m n downs rights → i < m → h < 2 * m → pos 0 ≤ℤ s → AreRowsBounded m (drop (n * m) table)
    → ((r : ℕ) → free r ≡ pos 0)
    → IsBackColumn h limit (numbers_from m s i (take m (drop (n * m) table))) (downs_from m i downs)
    (rights_from m i free) old new ways
    → IsBand a (lifted m s (table_at m table)) i h n limit n (at_row old) (at_row new)
banded_first a m n s i h limit table downs rights free old new ways p t costs lt low least b none back =
    band_first a (lifted_row m s t.start) (lifted m s (table_at m table)) i h n limit
    (numbers_from m s i (take m (drop (n * m) table))) (downs_from m i downs) (rights_from m i free) old new ways
    (forward_of_round a m n s t.start (table_at m table) p (omega (arith, lt)) t.potential)
    (of_column a m h n s i table (take m (drop (n * m) table)) downs rights p costs lt low least
    (bounded_take m (drop (n * m) table) b) (λ r less. column_at m n (n * m) m table r refl (omega arith) less))
    (λ k. none ((i + k) % m)) back

pub banded_more : (a : Arcs) (m n c k : ℕ) (s : ℤ) (i h : ℕ) (limit : ℤ) (table : List ℤ)
    (downs rights downs' rights' ends : ℕ → ℤ) (old new : List ℤ) (ways : List Bool) → k ≡ c + 1 → IsRowPeriodic a m
    → IsTable a m n s table → AreColumnCosts a m c downs rights → AreColumnCosts a m (c + 1) downs' rights' → i < m
    → h < 2 * m → c < n → pos 0 ≤ℤ s → AreRowsBounded m (drop (c * m) table)
    → IsBand a (lifted m s (table_at m table)) i h n limit k ends (at_row old)
    → IsBackColumn h limit (numbers_from m s i (take m (drop (c * m) table))) (downs_from m i downs)
    (rights_from m i rights') old new ways → IsBand a (lifted m s (table_at m table)) i h n limit c ends (at_row new)
banded_more a m n c k s i h limit table downs rights downs' rights' ends old new ways e p t here next lt low less least
    b done back =
    band_more a (lifted_row m s t.start) (lifted m s (table_at m table)) i h n c limit ends
    (numbers_from m s i (take m (drop (c * m) table))) (downs_from m i downs) (rights_from m i rights') old new ways
    (forward_of_round a m n s t.start (table_at m table) p (omega (arith, lt)) t.potential)
    (of_column a m h c s i table (take m (drop (c * m) table)) downs rights p here lt low least
    (bounded_take m (drop (c * m) table) b) (λ r in'. column_at m c (c * m) m table r refl (omega arith) in'))
    (rights_at a m c i downs' rights' p next lt) less
    (subst (λ (x : ℕ). IsBand a (lifted m s (table_at m table)) i h n limit x ends (at_row old)) e done) back

-- the same turn in the ring's own row
turn_cost : (a : Arcs) (m n r : ℕ) (w : List Step) → Periodic a m n → r < 2 * m → 0 < m
    → word_cost a (r % m) 0 w ≡ word_cost a r 0 w
turn_cost a m n r w p lt some =
    elim (cases_lt r m) [
      | inl less ↦ ap (λ (x : ℕ). word_cost a x 0 w) (ring_low m r less)
      | inr ge ↦ (let e : r - m + m ≡ r = omega (arith, ge) in ap (λ (x : ℕ). word_cost a x 0 w) (ring_high m r ge lt)
          ∙ sym (word_cost-row a m n p (r - m) 0 w) ∙ ap (λ (x : ℕ). word_cost a x 0 w) e)
    ]

-- a bound of one turn, by the sum of its start and the number of its end
pub band_bound : (a : Arcs) (m n : ℕ) (phi : ℕ → ℕ → ℤ) (i k : ℕ) (limit : ℤ) (ends sums : List ℤ) (bound : ℤ)
    → Periodic a m n → i < m → k < m → IsBand a phi i (2 * m - 1) n limit 0 (at_row ends) (at_row sums)
    → ((cost : ℕ) → ((phi (i + k) 0 +ℤ (pos cost +ℤ at_row ends (m + k))) ≤ℤ limit
    → at_row sums k ≤ℤ (pos cost +ℤ at_row ends (m + k))) → bound ≤ℤ pos cost) → (w : List Step) → HasLetters m n w
    → bound ≤ℤ pos (word_cost a ((i + k) % m) 0 w)
band_bound a m n phi i k limit ends sums bound p lt less band h w l =
    let e : at_row ends (k + count_v w) ≡ at_row ends (m + k) = ap (at_row ends) (omega (arith, l.v)) in
    omega (
      arith,
      ints,
      turn_cost a m n (i + k) w p (omega (arith, lt, less)) (omega (arith, lt)),
      h (word_cost a (i + k) 0 w) (λ le.
          omega (
            arith,
            ints,
            e,
            band k w (omega (arith, l.v, less)) (omega (arith, l.h))
                (omega (arith, ints, e, le)),
          )),
    )

-- bounds stay bounds where one of them is raised to another bound
pub raised : (a : Arcs) (m n r : ℕ) (bounds : List ℤ) (bound : ℤ) → AreFitBounds a m n bounds → length bounds ≡ m
    → r < m
    → ((w : List Step) → HasLetters m n w → bound ≤ℤ pos (word_cost a r 0 w)) → unsigned_abs bound < 2 ^ 63
    → AreFitBounds a m n (set bounds r bound)
raised a m n r bounds bound h len lt b fits = record {
  turns = λ k less w l. replaced (λ (x : ℤ). x ≤ℤ pos (word_cost a k 0 w)) bounds r k bound within
      (λ e. omega (arith, ints, ap (λ (x : ℕ). word_cost a x 0 w) e, b w l)) (λ _. h.turns k less w l);
  fit = λ k less. replaced (λ (x : ℤ). unsigned_abs x < 2 ^ 63) bounds r k bound within (λ _. fits)
      (λ _. h.fit k less);
}
  where
    within : r < length bounds
    within = omega (arith, len, lt)

-- where nothing is left
pub sums_none : (h count : ℕ) → count ≡ h + 1 → AreSumsOf h (replicate count gone)
sums_none h count e = record {
  count = omega (arith, length-replicate count gone, e);
  least = λ k le. omega (arith, ints, get_or-replicate count k gone (pos 0) (omega (arith, le, e)));
  most = λ k le. omega (arith, ints, get_or-replicate count k gone (pos 0) (omega (arith, le, e)));
}

-- what a turn costs at least, where its cost is past the limit or the sum counts it
pub past_bound : (number limit end sum less x : ℤ) (cost : ℕ) → less ≤ℤ ((limit +ℤ pos 1) -ℤ number) → less ≤ℤ sum
    → x ≡ less -ℤ end → ((number +ℤ (pos cost +ℤ end)) ≤ℤ limit → sum ≤ℤ (pos cost +ℤ end)) → x ≤ℤ pos cost
past_bound number limit end sum less x cost past by_sum e h =
    by_lt_z limit (number +ℤ (pos cost +ℤ end)) (λ lt. omega (arith, ints, past, e, lt))
    (λ le. omega (arith, ints, by_sum, e, h le))

-- column 0 of a table
pub first_at : (m : ℕ) (table : List ℤ) (r : ℕ) → r < m → at_row (take m table) r ≡ table_at m table r 0
first_at m table r lt = get_or-take m table r (pos 0) lt ∙ zeroth m table r

pub first_bounded : (m : ℕ) (table : List ℤ) → AreRowsBounded m (drop (0 * m) table) → AreRowsBounded m (take m table)
first_bounded m table b = record {
  least = λ r lt. omega (arith, ints, first_at m table r lt, get_or-drop (0 * m) table r (pos 0), b.least r lt);
  most = λ r lt. omega (arith, ints, first_at m table r lt, get_or-drop (0 * m) table r (pos 0), b.most r lt);
}

pub lower_than : (x : ℤ) → pos 0 ≤ℤ x → neg_ℤ (pos (2 ^ 63)) ≤ℤ x
lower_than x h = omega (arith, ints, h)

-- no cast changes a difference that is in range
pub gap_is : (a b c : ℤ) → b ≤ℤ a → pos 0 ≤ℤ b → a ≤ℤ c → c ≤ℤ gone → to_z w64 (of_z w64 (a -ℤ b)) ≡ a -ℤ b
gap_is a b c ge low le high = omega (arith, ints, ge, low, le, high)
