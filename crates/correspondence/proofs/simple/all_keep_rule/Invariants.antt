use Rattle.std.proofs.Common.{◌≤◌, ◌<◌, ◌-◌, ℕ}
use Rattle.correspondence.specs.Simple.{AgainstRule}
use Rattle.correspondence.proofs.simple.all_keep_rule.Given as goal

abbrev pub invariant-loop-begin : goal.invariant-loop-begin
invariant-loop-begin l = (first second : ℕ) → first < l.begin → first < second → l.block.begin ≤ second
    → second < l.block.end → AgainstRule l.ring first second → ⊥

abbrev pub decreases-loop-begin : goal.decreases-loop-begin
decreases-loop-begin l = l.block.end - l.begin
