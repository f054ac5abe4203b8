use Rattle.std.proofs.Common.{map}
use Rattle.correspondence.specs.Contours.{points_of}
use Rattle.correspondence.specs.Apart.{ContoursTouch}
use Rattle.correspondence.proofs.Rules.{untrue}
use Rattle.correspondence.proofs.Firsts.{one_partner_less}
use Rattle.correspondence.proofs.apart.first_touched.Goals as goal

pub loop-second-preserved : goal.loop-second-preserved
loop-second-preserved c =
    one_partner_less (ContoursTouch (map points_of c.args.contours.now)) c.args.first c.loop-second.second
    c.loop-second.invariant
    (λ a. untrue c.touch_at.result c.if-touch_at.false (c.touch_at.ensures.1 a))
