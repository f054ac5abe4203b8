use Rattle.std.proofs.Common.{◌≡◌, ℕ, rules, arith, get_or, ◌+◌}
use Rattle.std.proofs.lemmas.Fn.{always_returns_same}
use Rattle.std.proofs.lemmas.Map.Keys.{ge_from_not_lt}
use Rattle.std.specs.declared.cmp.Reverse.{Reverse}
use Rattle.pair_pool.specs.declared.jobs.Job.{Job}
use Rattle.pair_pool.proofs.jobs.jobs_of.Goals as goal

abbrev work_key : Job → Reverse ℕ
work_key j = record { 0 = j.work }

pub returns : goal.returns
returns c =
    let jobs = c.sort_by_key.new.self.items in
    let sorted = c.in_ok-sort_by_key.ensures.sorted work_key
    (always_returns_same _ (λ a r. r ≡ work_key a.0.now) _ (λ a r q called. search rules)) in
    record {
      listed = c.in_ok-jobs.jobs.items;
      all = c.in_ok-jobs.ensures;
      same = c.in_ok-sort_by_key.ensures.permutation;
      falls = λ k d l. ge_from_not_lt (get_or jobs k d).work (get_or jobs (k + 1) d).work (sorted k d (omega arith) l);
    }
