use Rattle.std.proofs.Common.{arith, length}
use Rattle.correspondence.specs.Simple.{AgainstRule}
use Rattle.correspondence.proofs.Firsts.{one_place_less, pair_from}
use Rattle.correspondence.proofs.simple.first_pair.Goals as goal

pub returns-in-Some : goal.returns-in-Some
returns-in-Some c = pair_from (AgainstRule c.args.ring.now) (length c.args.ring.now) c.loop-first.first c.in-Some.second
    c.loop-first.invariant c.in-Some.ensures

pub loop-first-preserved : goal.loop-first-preserved
loop-first-preserved c = one_place_less (AgainstRule c.args.ring.now) (length c.args.ring.now) c.loop-first.first
    c.loop-first.invariant c.in_default.ensures

pub returns : goal.returns
returns c e f o w = c.loop-first.invariant e f o w (omega arith)
