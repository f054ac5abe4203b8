-- What the rows of numbers show of the strip.
use Rattle.std.proofs.Common.{◌≡◌, ℕ, ◌+◌, ◌*◌, ◌<◌, ◌≤◌, ℤ, pos, ◌-ℤ◌, ◌≤ℤ◌, ◌↔◌, inl, inr, List, length, get_or, sym, subst₂, arith}
use Rattle.std.proofs.lemmas.Bool.{cases_lt}
use Rattle.std.proofs.lemmas.Int.{ints}
use Rattle.strip_graph.specs.declared.tilings.Step.{Step}
use Rattle.strip_graph.specs.declared.tilings.Step.TheVariants.{V, H}
use Rattle.strip_graph.specs.Words.{Arcs}
use Rattle.strip_graph.specs.Strips.{Strip, arcs}
use Rattle.strip_graph.specs.Certificates.{value_at, StepHolds, TurnHolds}
use Rattle.cert_checker.specs.Steps.{RowStepHolds}

-- a row of the strip and the row below it, of so many rows, as they were read
pub record AreRows (n count i : ℕ) (pi here below : List ℤ) : Type 0 where
  pub width : length here ≡ n + 1
  pub values : (c : ℕ) → c ≤ n → get_or here c (pos 0) ≡ value_at n pi i c
  pub width_below : i + 1 < count → length below ≡ n + 1
  pub none_below : i + 1 ≡ count → length below ≡ 0
  pub values_below : (c : ℕ) → i + 1 < count → c ≤ n → get_or below c (pos 0) ≡ value_at n pi (i + 1) c

row_step : (a : Arcs) (m n i : ℕ) (pi here below : List ℤ) → i < 2 * m → AreRows n (2 * m) i pi here below
    → (j : ℕ) (s : Step) → RowStepHolds a i here below j s ↔ StepHolds a m n pi i j s
row_step a m n i pi here below inside k j V = (
  (λ h lt le. omega (arith, ints, h (omega (arith, k.width_below lt, le)), k.values j le, k.values_below j lt le)),
  (λ h lt. elim (cases_lt (i + 1) (2 * m)) [
    | inl less ↦ (let le : j ≤ n = omega (arith, lt, k.width_below less) in
        omega (arith, ints, h less le, k.values j le, k.values_below j less le))
    | inr more ↦ absurd (omega (arith, lt, k.none_below (omega (arith, inside, more))))
  ]),
)
row_step a m n i pi here below inside k j H = (
  (λ h in' lt. omega (
    arith,
    ints,
    h (omega (arith, k.width, lt)),
    k.values j (omega (arith, lt)),
    k.values (j + 1) (omega (arith, lt)),
  )),
  (λ h lt. let less : j < n = omega (arith, lt, k.width) in
      omega (arith, ints, h inside less, k.values j (omega (arith, less)), k.values (j + 1) (omega (arith, less)))),
)

-- the same for an equal strip and row
pub row_step_at : (q p : Strip) (i' m n i : ℕ) (pi here below : List ℤ) → q ≡ p → i' ≡ i → i < 2 * m
    → AreRows n (2 * m) i pi here below → (j : ℕ) (s : Step)
    → RowStepHolds (arcs q) i' here below j s ↔ StepHolds (arcs p) m n pi i j s
row_step_at q p i' m n i pi here below e f inside k j s =
    subst₂ (λ (t : Strip) (x : ℕ). RowStepHolds (arcs t) x here below j s ↔ StepHolds (arcs p) m n pi i j s) (sym e)
    (sym f) (row_step (arcs p) m n i pi here below inside k j s)

-- the rise over a turn, from its ends as they were read
pub turn_at : (m n i : ℕ) (pi : List ℤ) (from to cost : ℤ) → i < m → from ≡ value_at n pi i 0
    → to ≡ value_at n pi (i + m) n → cost ≤ℤ (to -ℤ from) ↔ TurnHolds m n pi cost i
turn_at m n i pi from to cost inside e f =
    ((λ h lt. omega (arith, ints, h, e, f)), (λ h. omega (arith, ints, h inside, e, f)))
