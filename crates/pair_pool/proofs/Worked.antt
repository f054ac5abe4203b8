-- The definitions at worked examples: counts of solved pairs, and two pairs of equal squares that are taken and solved.
use Rattle.std.proofs.Common.{◌≡◌, ℕ, zero, suc, ◌-◌, ◌^◌, ◌<◌, pos, List, [], ◌∷◌, None, Some, refl, arith}
use Rattle.std.specs.Prelude.{IfSome, slice_index_or}
use Rattle.strip_graph.specs.Strips.{Strip}
use Rattle.row_paths.specs.Solutions.{Solution, Solves}
use Rattle.strip_graph.proofs.Worked.{squares}
use Rattle.row_paths.proofs.Worked.{squares_solution, squares_solved, not_solved}
use Rattle.pair_pool.specs.declared.jobs.Job.{Job}
use Rattle.pair_pool.specs.Jobs.{work_of, AreJobs}
use Rattle.pair_pool.specs.Solvers.{raised_by, SolvesEach}
use Rattle.pair_pool.specs.Batches.{IsMadeAt, AreSlots, AreMade}

-- a count rises by the number of pairs, up to the last value of its counter
counts : (raised_by 2 5 ≡ 7) × (raised_by 0 5 ≡ 5) × (raised_by 1 (2 ^ 64 - 2) ≡ 2 ^ 64 - 1)
    × (raised_by 3 (2 ^ 64 - 2) ≡ 2 ^ 64 - 1)
counts = (refl, refl, refl, refl)

abbrev two_pairs : List Strip
two_pairs = squares ∷ squares ∷ []

-- each pair has its solution at its place
solved : SolvesEach two_pairs (squares_solution ∷ squares_solution ∷ [])
solved = record { count = refl; each = each }
  where
    each : (k : ℕ) (p : Strip) (s : Solution) → k < 2
        → Solves (slice_index_or two_pairs k p) (slice_index_or (squares_solution ∷ squares_solution ∷ []) k s)
    each zero p s l = squares_solved
    each (suc zero) p s l = squares_solved
    each (suc (suc k)) p s l = absurd (omega (arith, l))

-- one solution for two pairs is too few, and a wrong one is refused at its place
too_few : SolvesEach two_pairs (squares_solution ∷ []) → ⊥
too_few h = omega (arith, h.count)

wrong_second : SolvesEach two_pairs (squares_solution ∷ record squares_solution { cost = pos 1300 } ∷ []) → ⊥
wrong_second h = not_solved (h.each 1 squares squares_solution (omega arith))

-- four rows and four columns
works : work_of squares ≡ 16
works = refl

job_at : ℕ → Job
job_at k = record { work = 16; place = k }

-- the values that are right for the places of two pairs
abbrev IsRight : ℕ → Solution → Type 0
IsRight k x = (p : Strip) → Solves (slice_index_or two_pairs k p) x

first_right : IsRight 0 squares_solution
first_right p = squares_solved

second_right : IsRight 1 squares_solution
second_right p = squares_solved

-- the second pair is taken, and its solution kept with place 1; there is no place 2
drawn : IsMadeAt 2 IsRight 1 squares_solution
drawn = record { within = omega arith; right = second_right }

drawn_nowhere : IsMadeAt 2 IsRight 2 squares_solution → ⊥
drawn_nowhere h = omega (arith, h.within)

-- it is put in the second slot, and the first one is empty
second_slot : AreSlots 2 IsRight (None ∷ Some squares_solution ∷ [])
second_slot = record { count = refl; each = each }
  where
    each : (k : ℕ) → IfSome (slice_index_or (None ∷ Some squares_solution ∷ []) k None) (IsRight k)
    each zero = tt
    each (suc zero) = second_right
    each (suc (suc k)) = tt

-- both are made; one for two places is too few
both_made : AreMade 2 IsRight (squares_solution ∷ squares_solution ∷ [])
both_made = record { count = refl; each = each }
  where
    each : (k : ℕ) (x : Solution) → k < 2 → IsRight k (slice_index_or (squares_solution ∷ squares_solution ∷ []) k x)
    each zero x l = first_right
    each (suc zero) x l = second_right
    each (suc (suc k)) x l = absurd (omega (arith, l))

too_few_made : AreMade 2 IsRight (squares_solution ∷ []) → ⊥
too_few_made h = omega (arith, h.count)

-- a job for one of two pairs is too few
too_few_jobs : AreJobs two_pairs (job_at 0 ∷ []) → ⊥
too_few_jobs h = omega (arith, h.count)
