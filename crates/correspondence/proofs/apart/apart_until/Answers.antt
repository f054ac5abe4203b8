use Rattle.std.proofs.Common.{◌<◌, map, arith}
use Rattle.correspondence.specs.Contours.{points_of}
use Rattle.correspondence.specs.Apart.{ContoursTouch}
use Rattle.correspondence.proofs.BlockLaws.{past_block}
use Rattle.correspondence.proofs.apart.apart_until.Goals as goal

pub loop-begin-preserved : goal.loop-begin-preserved
loop-begin-preserved c first second below ordered within =
    let contours = map points_of c.args.contours.now in
    past_block (λ k. k < second → ContoursTouch contours k second → ⊥) c.loop-begin.begin c.at-group.result.end
    (λ k l o. c.loop-begin.invariant k second l o within)
    (λ k from to o. c.group_is_apart.ensures c.if-not-group_is_apart.false k second
    (omega (arith, from, c.at-group.ensures.begin)) to o within) first below ordered
