-- Telescoping: the difference of two offsets is at most the least cost between their rows, less the least of all turns.
use Rattle.std.proofs.Common.{◌≡◌, ℕ, zero, suc, ◌+◌, ◌-◌, ◌<◌, ◌≤◌, pos, ◌+ℤ◌, ◌-ℤ◌, ◌≤ℤ◌, ap, arith, ◌⊎◌, inl, inr}
use Rattle.std.proofs.lemmas.Bool.{cases_lt}
use Rattle.std.proofs.lemmas.Int.{ints}
use Rattle.strip_graph.specs.Words.{Arcs}
use Rattle.strip_graph.specs.Distances.{turn_cost, offset}
use Rattle.strip_graph.proofs.Crossing.{turns_uncrossed}

-- the next offset
pub offset_next : (a : Arcs) (m n l : ℕ)
    → offset a m n (l + 1) ≡ (offset a m n l +ℤ pos (turn_cost a m n l (l + 1))) -ℤ pos
    (turn_cost a m n (l + 1) (l + 1))
offset_next a m n l = let e : l + 1 ≡ suc l = omega arith in ap (offset a m n) e

-- down the rows: the offsets of row i and of d rows further
offset_down : (a : Arcs) (m n d i : ℕ) → i + d < m
    → (offset a m n (i + d) -ℤ offset a m n i) ≤ℤ
    (pos (turn_cost a m n i (i + d)) -ℤ pos (turn_cost a m n (i + d) (i + d)))
offset_down a m n zero i lt = let e : i + 0 ≡ i = omega arith in rw e (omega (arith, ints))
offset_down a m n (suc d) i lt =
    let e : i + suc d ≡ i + 1 + d = omega arith in
    rw e (omega (
      arith,
      ints,
      offset_down a m n d (i + 1) (omega arith),
      offset_next a m n i,
      turns_uncrossed a m n i (i + 1) (i + 1) (i + 1 + d) (omega arith) (omega arith) (omega arith),
    ))

-- up the rows
offset_up : (a : Arcs) (m n d j : ℕ) → j + d < m
    → (offset a m n j -ℤ offset a m n (j + d)) ≤ℤ (pos (turn_cost a m n (j + d) j) -ℤ pos (turn_cost a m n j j))
offset_up a m n zero j lt = let e : j + 0 ≡ j = omega arith in rw e (omega (arith, ints))
offset_up a m n (suc d) j lt =
    let e : j + suc d ≡ j + d + 1 = omega arith in
    rw e (omega (
      arith,
      ints,
      offset_up a m n d j (omega arith),
      offset_next a m n (j + d),
      turns_uncrossed a m n (j + d) (j + d + 1) (j + d) (j + d + 1) (omega arith) (omega arith) (omega arith),
      turns_uncrossed a m n (j + d) (j + d + 1) j (j + d) (omega arith) (omega arith) (omega arith),
    ))

-- a number that is at most each turn's least cost bounds the differences of the offsets
pub offsets_telescope : (a : Arcs) (m n k : ℕ) → ((l : ℕ) → l < m → k ≤ turn_cost a m n l l) → (i j : ℕ) → i < m → j < m
    → (offset a m n j -ℤ offset a m n i) ≤ℤ (pos (turn_cost a m n i j) -ℤ pos k)
offsets_telescope a m n k below i j lt lt' = at (cases_lt i j)
  where
    at : (i < j) ⊎ (j ≤ i) → (offset a m n j -ℤ offset a m n i) ≤ℤ (pos (turn_cost a m n i j) -ℤ pos k)
    at (inl h) =
        let e : i + (j - i) ≡ j = omega arith in
        let d = rw e at (offset_down a m n (j - i) i (omega arith)) in
        omega (arith, ints, d, below j lt')
    at (inr h) =
        let e : j + (i - j) ≡ i = omega arith in
        let d = rw e at (offset_up a m n (i - j) j (omega arith)) in
        omega (arith, ints, d, below j lt')
