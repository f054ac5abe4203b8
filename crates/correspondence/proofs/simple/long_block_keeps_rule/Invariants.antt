use Rattle.std.proofs.Common.{◌≤◌, ◌<◌, ◌-◌, ℕ}
use Rattle.correspondence.specs.Simple.{AgainstRule}
use Rattle.correspondence.proofs.simple.long_block_keeps_rule.Given as goal

abbrev pub invariant-loop-begin : goal.invariant-loop-begin
invariant-loop-begin l = (first second : ℕ) → l.part.begin ≤ first → first < l.part.end → first < second
    → l.fn.block.begin ≤ second → second < l.begin → AgainstRule l.ring first second → ⊥

abbrev pub decreases-loop-begin : goal.decreases-loop-begin
decreases-loop-begin l = l.block.end - l.begin
