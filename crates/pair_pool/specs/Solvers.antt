-- Solvers of lists of pairs.
use Rattle.std.specs.Prelude.{◌≡◌, ℕ, ◌+◌, ◌-◌, ◌^◌, ◌<◌, min, List, length, map, slice_index_or}
use Rattle.std.specs.Borrow.{Bor}
use Rattle.strip_graph.specs.Strips.{Strip}
use Rattle.row_paths.specs.Solutions.{Solution, Solves}

-- how many pairs a solver has solved, and how many workers it has
pub record Solver : Type 0 where
  pub solved_pairs : ℕ
  pub worker_count : ℕ

-- a count raised by n, up to the last value of its counter
abbrev pub raised_by : ℕ → ℕ → ℕ
raised_by n count = min (count + n) (2 ^ 64 - 1)

-- the strips that references refer to
abbrev pub referents : List (Bor Strip) → List Strip
referents each = map (λ (p : Bor Strip). p.now) each

-- as many solutions as pairs, and each solves the pair at its place
pub record SolvesEach (pairs : List Strip) (solved : List Solution) : Type 0 where
  pub count : length solved ≡ length pairs
  pub each : (k : ℕ) (p : Strip) (s : Solution) → k < length pairs
      → Solves (slice_index_or pairs k p) (slice_index_or solved k s)
