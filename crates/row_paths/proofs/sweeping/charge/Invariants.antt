use Rattle.std.proofs.Common.{◌≡◌, ◌+◌}
use Rattle.row_paths.proofs.sweeping.charge.Given as goal

abbrev pub invariant-loop-place : goal.invariant-loop-place
invariant-loop-place g l = l.steps ≡ l.fn.steps + l.place
