use Rattle.std.proofs.Common.{length}
use Rattle.correspondence.specs.Simple.{AgainstRule}
use Rattle.correspondence.proofs.Firsts.{NoneBelow}
use Rattle.correspondence.proofs.simple.first_pair.Given as goal

abbrev pub invariant-loop-first : goal.invariant-loop-first
invariant-loop-first l = NoneBelow (AgainstRule l.ring) (length l.ring) l.first
