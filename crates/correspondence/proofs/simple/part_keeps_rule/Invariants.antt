use Rattle.std.proofs.Common.{◌≤◌, ◌<◌, ℕ}
use Rattle.correspondence.specs.Simple.{AgainstRule}
use Rattle.correspondence.proofs.simple.part_keeps_rule.Given as goal

abbrev pub invariant-loop-first : goal.invariant-loop-first
invariant-loop-first l = (first second : ℕ) → first < l.first → l.fn.part.begin ≤ first → first < second
    → l.block.begin ≤ second → second < l.block.end → AgainstRule l.ring first second → ⊥
