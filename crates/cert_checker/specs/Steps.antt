-- What the check reads of a row of numbers.
use Rattle.std.specs.Prelude.{ℕ, ◌+◌, ◌<◌, pos, ◌-ℤ◌, ◌≤ℤ◌, ℤ, List, length, slice_index_or}
use Rattle.strip_graph.specs.declared.tilings.Step.{Step}
use Rattle.strip_graph.specs.declared.tilings.Step.TheVariants.{V, H}
use Rattle.strip_graph.specs.Words.{Arcs}
use Rattle.cert_checker.specs.Verdicts.{ComesFirst}

-- the step from a column of a row of numbers, to the next row or along the row, raises them by at most its cost; the
-- last row has no next one
abbrev pub RowStepHolds : Arcs → ℕ → List ℤ → List ℤ → ℕ → Step → Type 0
RowStepHolds a i here below j V =
    j < length below → (slice_index_or below j (pos 0) -ℤ slice_index_or here j (pos 0)) ≤ℤ pos (a i j V)
RowStepHolds a i here below j H =
    j + 1 < length here → (slice_index_or here (j + 1) (pos 0) -ℤ slice_index_or here j (pos 0)) ≤ℤ pos (a i j H)

-- the first step of a row that fails a condition
pub record IsFirstInRow (Good : ℕ → Step → Type 0) (j : ℕ) (s : Step) : Type 0 where
  pub fails : Good j s → ⊥
  pub first : (j' : ℕ) (s' : Step) → ComesFirst j' s' j s → Good j' s'
