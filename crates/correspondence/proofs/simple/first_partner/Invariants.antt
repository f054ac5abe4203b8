use Rattle.correspondence.specs.Pairs.{NonePartner}
use Rattle.correspondence.specs.Simple.{AgainstRule}
use Rattle.correspondence.proofs.simple.first_partner.Given as goal

abbrev pub invariant-loop-second : goal.invariant-loop-second
invariant-loop-second l = NonePartner (AgainstRule l.ring) l.second l.first
