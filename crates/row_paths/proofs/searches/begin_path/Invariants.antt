use Rattle.std.proofs.Common.{◌≡◌, ℕ, ◌<◌, ◌≤◌, get_or}
use Rattle.row_paths.proofs.searches.begin_path.Given as goal

abbrev pub invariant-loop-x : goal.invariant-loop-x
invariant-loop-x l = record {
  first : (k : ℕ) → k < l.x → k ≤ l.start → get_or l.path k 0 ≡ 0;
  rest : (k : ℕ) → k < l.x → l.start < k → get_or l.path k 0 ≡ l.width;
}
