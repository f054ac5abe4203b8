use Rattle.std.proofs.Common.{◌<◌, suc, length, arith}
use Rattle.plane_geom.specs.Rings.{around}
use Rattle.correspondence.specs.Simple.{EdgesMeet}
use Rattle.correspondence.proofs.Rules.{untrue}
use Rattle.correspondence.proofs.BlockLaws.{past_block}
use Rattle.correspondence.proofs.Enclosed.{sharing_bounds_meet, around_within}
use Rattle.correspondence.proofs.apart.block_touches.Goals as goal

pub returns-then-not-meet-clause-all : goal.returns-then-not-meet-clause-all
returns-then-not-meet-clause-all c e f from below l s =
    let one = c.args.one.now in
    let other = c.args.other.now in
    let p = c.requires.part in
    let some : 0 < length other = omega (arith, l) in
    let meet = sharing_bounds_meet c.args.part.bounds c.args.bounds (around one e) (around one (suc e)) (around other f)
    (around other (suc f)) s
    (p.enclosed e from (omega arith)) (p.enclosed (suc e) (omega arith) (omega arith))
    (around_within c.args.bounds other f some c.requires.bounds)
    (around_within c.args.bounds other (suc f) some c.requires.bounds) in
    absurd (untrue c.meet.result c.if-not-meet.true (c.meet.ensures.1 meet))

pub returns-then-long_block_touches-clause-found : goal.returns-then-long_block_touches-clause-found
returns-then-long_block_touches-clause-found c t = c.long_block_touches.ensures.found c.if-long_block_touches.true

pub loop-begin-preserved : goal.loop-begin-preserved
loop-begin-preserved c e f from below =
    past_block (λ k. EdgesMeet c.args.one.now e c.args.other.now k → ⊥) c.loop-begin.begin c.at-block.result.end
    (λ k l. c.loop-begin.invariant e k from below l)
    (λ k start end s. untrue c.long_block_touches.result c.if-long_block_touches.false
    (c.long_block_touches.ensures.all e k from below (omega (arith, start, c.at-block.ensures.begin)) end s)) f

pub returns-clause-all : goal.returns-clause-all
returns-clause-all c e f from below l s =
    absurd (c.loop-begin.invariant e f from below (omega (arith, l, c.loop-begin-test.false)) s)
