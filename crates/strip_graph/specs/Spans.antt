-- The spans that a word passes.
use Rattle.std.specs.Prelude.{ℕ, ◌+◌, ◌%◌, ◌<◌, List, [], ◌∷◌}
use Rattle.strip_graph.specs.declared.tilings.Step.{Step}
use Rattle.strip_graph.specs.declared.tilings.Step.TheVariants.{V, H}
use Rattle.strip_graph.specs.declared.spans.SpanStep.{SpanStep}

-- the spans that a word passes from row i and column j, each with the step that leaves it; rows and columns are not
-- counted round
abbrev pub spans : ℕ → ℕ → List Step → List SpanStep
spans i j [] = []
spans i j (V ∷ w) = record { row = i; col = j; step = V } ∷ spans (i + 1) j w
spans i j (H ∷ w) = record { row = i; col = j; step = H } ∷ spans i (j + 1) w

-- the same span, its row counted round m rows and its column round n columns
abbrev pub round : ℕ → ℕ → SpanStep → SpanStep
round m n s = record { row = s.row % m; col = s.col % n; step = s.step }

-- a span of one of m rows and one of n columns
pub record IsOf (m n : ℕ) (s : SpanStep) : Type 0 where
  pub row : s.row < m
  pub col : s.col < n
