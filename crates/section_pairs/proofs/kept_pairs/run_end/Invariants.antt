use Rattle.std.proofs.Common.{◌≡◌, ℕ, ◌<◌, ◌≤◌, get_or}
use Rattle.section_pairs.specs.declared.gap_pairs.GapPair.{GapPair}
use Rattle.section_pairs.proofs.kept_pairs.run_end.Given as goal

abbrev pub invariant-loop-place : goal.invariant-loop-place
invariant-loop-place l = (k : ℕ) (d : GapPair) → l.begin ≤ k → k < l.place → (get_or l.pairs k d).gap ≡ l.gap
