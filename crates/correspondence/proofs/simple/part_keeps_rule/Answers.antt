use Rattle.std.proofs.Common.{ℕ, suc, ◌<◌, ◌≤◌, arith}
use borrow.Author.Count.{below_more}
use Rattle.correspondence.specs.Simple.{AgainstRule}
use Rattle.correspondence.proofs.Rules.{untrue}
use Rattle.correspondence.proofs.Enclosed.{against_bounds_meet}
use Rattle.correspondence.proofs.simple.part_keeps_rule.Goals as goal

pub returns-then-not-meet : goal.returns-then-not-meet
returns-then-not-meet c t first second start end ordered from below against =
    let p = c.requires.part in
    let b = c.requires.block in
    let meet = against_bounds_meet c.args.part.bounds c.args.block.bounds c.args.ring.now first second
    (p.enclosed first start (omega arith)) (p.enclosed (suc first) (omega arith) (omega arith))
    (b.enclosed second from (omega arith)) (b.enclosed (suc second) (omega arith) (omega arith)) against in
    untrue c.meet.result c.if-not-meet.true (c.meet.ensures.1 meet)

pub loop-first-preserved : goal.loop-first-preserved
loop-first-preserved c first second below start =
    below_more (λ k. c.args.part.begin ≤ k → (second : ℕ) → k < second → c.args.block.begin ≤ second
    → second < c.args.block.end → AgainstRule c.args.ring.now k second → ⊥) c.loop-first.first
    (λ k l s g. c.loop-first.invariant k g l s) (λ s. c.keeps_rule.ensures c.if-not-keeps_rule.false) first below start
    second

pub returns : goal.returns
returns c t first second start end =
    c.loop-first.invariant first second (omega (arith, end, c.loop-first-test.false)) start
