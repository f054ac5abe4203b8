-- The potential raises no step by more than its cost, and rises by the least turn or more once round.
use Rattle.std.proofs.Common.{◌≡◌, ℕ, zero, suc, ◌+◌, ◌-◌, ◌<◌, ◌≤◌, min, ℤ, pos, ◌-ℤ◌, ◌≤ℤ◌, refl, ap, ap₂, arith, inl, inr}
use Rattle.std.proofs.lemmas.Bool.{cases_lt}
use Rattle.std.proofs.lemmas.Int.{ints, clamps, by_lt_z}
use Rattle.strip_graph.specs.declared.tilings.Step.TheVariants.{V, H}
use Rattle.strip_graph.specs.Words.{Arcs}
use Rattle.strip_graph.specs.Distances.{distance, turn_cost}
use Rattle.strip_graph.proofs.LeastWords.{distance-none}
use Rattle.strip_graph.specs.Potentials.{least_up_to, reach, potential}
use Rattle.strip_graph.proofs.Telescoping.{offsets_telescope}
use Rattle.strip_graph.proofs.LastSteps.{distance-le_last_v, distance-le_last_h}

-- the least of f 0 to f k is at most each of them, and is one of them
least_up_to-le : (f : ℕ → ℤ) (k i : ℕ) → i ≤ k → least_up_to f k ≤ℤ f i
least_up_to-le f zero i le = let e : i ≡ zero = omega arith in rw e (omega (arith, ints))
least_up_to-le f (suc k) i le =
    elim (cases_lt i (suc k)) [
      | inl lt ↦ omega (arith, ints, clamps, least_up_to-le f k i (omega arith))
      | inr ge ↦ (let e : i ≡ suc k = omega arith in rw e (omega (arith, ints, clamps)))
    ]

pub record ReachedUpTo (f : ℕ → ℤ) (k : ℕ) : Type 0 where
  pub at : ℕ
  pub within : at ≤ k
  pub value : least_up_to f k ≡ f at

least_up_to-reached : (f : ℕ → ℤ) (k : ℕ) → ReachedUpTo f k
least_up_to-reached f zero = record { at = zero; within = omega arith; value = refl }
least_up_to-reached f (suc k) = let r = least_up_to-reached f k in by_lt_z (f (suc k)) (least_up_to f k)
    (λ lt. record { at = suc k; within = omega arith; value = omega (arith, ints, clamps) })
    (λ le. record { at = r.at; within = omega (arith, r.within); value = omega (arith, ints, clamps, r.value) })

-- the same for the potential
pub potential-le : (a : Arcs) (m n r c i : ℕ) → i < m → i ≤ r → potential a m n r c ≤ℤ reach a m n r c i
unfolding potential
potential-le a m n r c i lt le = least_up_to-le (reach a m n r c) (min r (m - 1)) i (omega arith)

pub record From (a : Arcs) (m n r c : ℕ) : Type 0 where
  pub row : ℕ
  pub below : row < m
  pub above : row ≤ r
  pub value : potential a m n r c ≡ reach a m n r c row

pub potential-reached : (a : Arcs) (m n r c : ℕ) → 0 < m → From a m n r c
unfolding potential
potential-reached a m n r c some =
    let k = least_up_to-reached (reach a m n r c) (min r (m - 1)) in
    record { row = k.at; below = omega (arith, k.within); above = omega (arith, k.within); value = k.value }

-- a step's end may be written in another way
pub step_at : (a : Arcs) (i j i' j' : ℕ) → i ≡ i' → j ≡ j' → (a i j V ≡ a i' j' V) × (a i j H ≡ a i' j' H)
step_at a i j i' j' e f = (ap₂ (λ (x y : ℕ). a x y V) e f, ap₂ (λ (x y : ℕ). a x y H) e f)

-- no step raises the potential by more than its cost
pub potential-step_v : (a : Arcs) (m n i j : ℕ) → 0 < m
    → (potential a m n (i + 1) j -ℤ potential a m n i j) ≤ℤ pos (a i j V)
potential-step_v a m n i j some =
    let k = potential-reached a m n i j some in
    omega (
      arith,
      ints,
      k.value,
      potential-le a m n (i + 1) j k.row k.below (omega (arith, k.above)),
      distance-le_last_v a k.row 0 (i - k.row) j,
      ap (λ (x : ℕ). distance a k.row 0 x j) (rows_more i k.row k.above),
      (step_at a (k.row + (i - k.row)) (0 + j) i j (omega (arith, k.above)) (omega arith)).0,
    )
  where
    rows_more : (i k : ℕ) → k ≤ i → i + 1 - k ≡ i - k + 1
    rows_more i k le = omega arith

pub potential-step_h : (a : Arcs) (m n i j : ℕ) → 0 < m
    → (potential a m n i (j + 1) -ℤ potential a m n i j) ≤ℤ pos (a i j H)
potential-step_h a m n i j some =
    let k = potential-reached a m n i j some in
    omega (
      arith,
      ints,
      k.value,
      potential-le a m n i (j + 1) k.row k.below k.above,
      distance-le_last_h a k.row 0 (i - k.row) j,
      (step_at a (k.row + (i - k.row)) (0 + j) i j (omega (arith, k.above)) (omega arith)).1,
    )

-- once round it rises by k or more, where no turn costs less than k
pub potential-turn : (a : Arcs) (m n k : ℕ) → ((l : ℕ) → l < m → k ≤ turn_cost a m n l l) → (i : ℕ) → i < m
    → pos k ≤ℤ (potential a m n (i + m) n -ℤ potential a m n i 0)
potential-turn a m n k below i lt =
    let f = potential-reached a m n (i + m) n (omega arith) in
    let e : i - i ≡ 0 = omega arith in
    omega (
      arith,
      ints,
      f.value,
      potential-le a m n i 0 i lt (omega arith),
      ap (λ (x : ℕ). distance a i 0 x 0) e,
      distance-none a i 0,
      offsets_telescope a m n k below f.row i f.below lt,
    )
