use Rattle.std.proofs.Common.{suc, ◌<◌, ◌≤◌, arith}
use Rattle.correspondence.specs.Simple.{AgainstRule}
use Rattle.correspondence.proofs.Rules.{untrue}
use Rattle.correspondence.proofs.BlockLaws.{past_block}
use Rattle.correspondence.proofs.Enclosed.{against_bounds_meet}
use Rattle.correspondence.proofs.simple.long_block_keeps_rule.Goals as goal

pub returns-then-not-meet : goal.returns-then-not-meet
returns-then-not-meet c t first second start end ordered from below against =
    let p = c.requires.part in
    let b = c.requires.block in
    let meet = against_bounds_meet c.args.part.bounds c.args.block.bounds c.args.ring.now first second
    (p.enclosed first start (omega arith)) (p.enclosed (suc first) (omega arith) (omega arith))
    (b.enclosed second from (omega arith)) (b.enclosed (suc second) (omega arith) (omega arith)) against in
    untrue c.meet.result c.if-not-meet.true (c.meet.ensures.1 meet)

pub loop-begin-preserved : goal.loop-begin-preserved
loop-begin-preserved c first second start end ordered from below =
    past_block (λ k. first < k → c.args.block.begin ≤ k → AgainstRule c.args.ring.now first k → ⊥) c.loop-begin.begin
    c.at-short.result.end
    (λ k l o g. c.loop-begin.invariant first k start end o g l)
    (λ k here to o g. c.part_keeps_rule.ensures c.if-not-part_keeps_rule.false first k start end o
    (omega (arith, here, c.at-short.ensures.begin)) to) second below ordered from

pub returns : goal.returns
returns c t first second start end ordered from below =
    c.loop-begin.invariant first second start end ordered from (omega (arith, below, c.loop-begin-test.false))
