use Rattle.std.proofs.Common.{◌≡◌, ℕ, ◌<◌, length, get_or}
use Rattle.pair_pool.specs.declared.jobs.Job.{Job}
use Rattle.pair_pool.specs.Jobs.{IsJobAt}
use Rattle.pair_pool.specs.Solvers.{referents}
use Rattle.pair_pool.proofs.jobs.jobs_in_order.Given as goal

abbrev pub invariant-loop-place : goal.invariant-loop-place
invariant-loop-place l = record {
  count : length l.jobs.items ≡ l.place;
  each : (k : ℕ) (d : Job) → k < length l.jobs.items → IsJobAt (referents l.pairs) k (get_or l.jobs.items k d);
}
