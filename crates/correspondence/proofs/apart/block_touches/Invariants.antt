use Rattle.std.proofs.Common.{ℕ, ◌<◌, ◌≤◌, ◌-◌, length}
use Rattle.correspondence.specs.Simple.{EdgesMeet}
use Rattle.correspondence.proofs.apart.block_touches.Given as goal

abbrev pub invariant-loop-begin : goal.invariant-loop-begin
invariant-loop-begin l = (e f : ℕ) → l.part.begin ≤ e → e < l.part.end → f < l.begin → EdgesMeet l.one e l.other f → ⊥

abbrev pub decreases-loop-begin : goal.decreases-loop-begin
decreases-loop-begin l = length l.other - l.begin
