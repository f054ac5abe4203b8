-- Where the solution of each pair comes from.
use Rattle.std.specs.Prelude.{◌≡◌, ℕ, ◌<◌, pos, true, List, [], length, slice_index_or}
use Rattle.strip_graph.specs.Strips.{Strip}
use Rattle.row_paths.specs.Solutions.{Solution}
use Rattle.pair_pool.specs.Solvers.{referents}
use Rattle.section_edits.specs.declared.plans.Origin.{Origin}
use Rattle.section_edits.specs.declared.plans.Origin.TheVariants.{Kept, Fresh}
use Rattle.section_edits.specs.declared.plans.Plan.{Plan}
use Rattle.section_edits.specs.Fresh.{is_same_strip, fresh}

-- the strip at a place is the same
abbrev pub IsSameStripAt : Strip → List Strip → ℕ → Type 0
IsSameStripAt p kept k = (k < length kept) × ((q : Strip) → is_same_strip p (slice_index_or kept k q) ≡ true)

-- the strip is the same as a kept one; or it is one of the new ones
abbrev pub ComesFrom : List Strip → List Strip → Strip → Origin → Type 0
ComesFrom kept solving p (Kept k) = IsSameStripAt p kept k
ComesFrom kept solving p (Fresh k) = (k < length solving) × ((q : Strip) → slice_index_or solving k q ≡ p)

-- each pair has its origin, and just the new ones are to be solved
pub record IsPlanOf (kept strips : List Strip) (origins : List Origin) (solving : List Strip) : Type 0 where
  pub count : length origins ≡ length strips
  pub each : (k : ℕ) (p : Strip) (o : Origin) → k < length strips
      → ComesFrom kept solving (slice_index_or strips k p) (slice_index_or origins k o)
  pub fresh : length solving ≡ fresh kept strips

abbrev pub IsPlan : List Strip → List Strip → Plan → Type 0
IsPlan kept strips plan = IsPlanOf kept strips plan.origins.items (referents plan.solving.items)

-- an origin is one of these numbers of solutions
abbrev pub IsAmong : ℕ → ℕ → Origin → Type 0
IsAmong kept solving (Kept k) = k < kept
IsAmong kept solving (Fresh k) = k < solving

abbrev pub no_solution : Solution
no_solution = record { row = 0; word = []; cost = pos 0 }

-- the solution that comes from an origin
abbrev pub solution_from : List Solution → List Solution → Origin → Solution
solution_from kept solved (Kept k) = slice_index_or kept k no_solution
solution_from kept solved (Fresh k) = slice_index_or solved k no_solution
