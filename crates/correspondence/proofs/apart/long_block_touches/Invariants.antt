use Rattle.std.proofs.Common.{ℕ, ◌<◌, ◌≤◌, ◌-◌}
use Rattle.correspondence.specs.Simple.{EdgesMeet}
use Rattle.correspondence.proofs.apart.long_block_touches.Given as goal

abbrev pub invariant-loop-begin : goal.invariant-loop-begin
invariant-loop-begin l = (e f : ℕ) → l.fn.part.begin ≤ e → e < l.begin → l.block.begin ≤ f → f < l.block.end
    → EdgesMeet l.one e l.other f → ⊥

abbrev pub decreases-loop-begin : goal.decreases-loop-begin
decreases-loop-begin l = l.part.end - l.begin
