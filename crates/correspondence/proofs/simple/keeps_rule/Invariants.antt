use Rattle.std.proofs.Common.{◌≤◌, ◌<◌, ℕ}
use Rattle.correspondence.specs.Simple.{AgainstRule}
use Rattle.correspondence.proofs.simple.keeps_rule.Given as goal

abbrev pub invariant-loop-second : goal.invariant-loop-second
invariant-loop-second l = (second : ℕ) → l.first < second → l.fn.block.begin ≤ second → second < l.second
    → AgainstRule l.ring l.first second → ⊥
