use Rattle.std.proofs.Common.{ℕ, ◌<◌, ◌-◌, length}
use Rattle.correspondence.specs.Simple.{EdgesMeet}
use Rattle.correspondence.proofs.apart.touch.Given as goal

abbrev pub invariant-loop-begin : goal.invariant-loop-begin
invariant-loop-begin l = (e f : ℕ) → e < l.begin → f < length l.other → EdgesMeet l.one e l.other f → ⊥

abbrev pub decreases-loop-begin : goal.decreases-loop-begin
decreases-loop-begin l = length l.one - l.begin
