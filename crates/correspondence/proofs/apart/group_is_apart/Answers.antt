use Rattle.std.proofs.Common.{◌<◌, map, arith}
use borrow.Author.Count.{below_more}
use Rattle.correspondence.specs.Contours.{points_of}
use Rattle.correspondence.specs.Apart.{ContoursTouch}
use Rattle.correspondence.proofs.apart.group_is_apart.Goals as goal

pub loop-second-preserved : goal.loop-second-preserved
loop-second-preserved c first second from to ordered below =
    let contours = map points_of c.args.contours.now in
    below_more (λ k. first < k → ContoursTouch contours first k → ⊥) c.loop-second.second
    (λ k l o. c.loop-second.invariant first k from to o l)
    (λ o. c.is_apart.ensures c.if-not-is_apart.false first from to o) second below ordered

pub returns : goal.returns
returns c t first second from to ordered within =
    c.loop-second.invariant first second from to ordered (omega (arith, within, c.loop-second-test.false))
