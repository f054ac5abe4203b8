use Rattle.std.proofs.Common.{length, ◌-◌}
use Rattle.correspondence.specs.Pairs.{NonePair}
use Rattle.correspondence.specs.Simple.{AgainstRule}
use Rattle.correspondence.proofs.simple.is_simple.Given as goal

abbrev pub invariant-loop-begin : goal.invariant-loop-begin
invariant-loop-begin l = NonePair (AgainstRule l.ring) l.begin

abbrev pub decreases-loop-begin : goal.decreases-loop-begin
decreases-loop-begin l = length l.ring - l.begin
