-- The jobs of pairs, in the order in which workers take them.
use Rattle.std.specs.Prelude.{◌≡◌, ℕ, ◌+◌, ◌*◌, ◌<◌, ◌≤◌, List, length, slice_index_or}
use Rattle.std.specs.List.Sorted.{IsPermutation}
use Rattle.strip_graph.specs.Strips.{Strip, rows, cols}
use Rattle.pair_pool.specs.declared.jobs.Job.{Job}

-- the estimated work of a strip: the places of its tables
abbrev pub work_of : Strip → ℕ
work_of p = rows p * cols p

-- the job of the strip at a place of the list
pub record IsJobAt (pairs : List Strip) (k : ℕ) (job : Job) : Type 0 where
  pub place : job.place ≡ k
  pub work : (p : Strip) → job.work ≡ work_of (slice_index_or pairs k p)

-- a job for each strip, in the order of the list
pub record AreJobs (pairs : List Strip) (jobs : List Job) : Type 0 where
  pub count : length jobs ≡ length pairs
  pub each : (k : ℕ) (d : Job) → k < length jobs → IsJobAt pairs k (slice_index_or jobs k d)

-- the same jobs, and none has more work than its predecessor
pub record AreByWork (pairs : List Strip) (jobs : List Job) : Type 0 where
  pub listed : List Job
  pub all : AreJobs pairs listed
  pub same : IsPermutation listed jobs
  pub falls : (k : ℕ) (d : Job) → k + 1 < length jobs
      → (slice_index_or jobs (k + 1) d).work ≤ (slice_index_or jobs k d).work
