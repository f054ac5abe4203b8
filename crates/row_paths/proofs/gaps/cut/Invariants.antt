use Rattle.std.proofs.Common.{◌≡◌, ℕ, ◌<◌, min, length, get_or}
use Rattle.row_paths.proofs.gaps.cut.Given as goal

abbrev pub invariant-loop-bound : goal.invariant-loop-bound
invariant-loop-bound l = record {
  count : length l.cut.items ≡ l.bound-index;
  are : (k : ℕ) → k < l.bound-index → get_or l.cut.items k 0 ≡ min (get_or l.bounds k 0) l.col;
}
