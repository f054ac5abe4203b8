use Rattle.std.proofs.Common.{ℕ, ◌<◌, ◌≤◌, arith}
use Rattle.correspondence.specs.Simple.{AgainstRule}
use Rattle.correspondence.proofs.BlockLaws.{past_block}
use Rattle.correspondence.proofs.simple.all_keep_rule.Goals as goal

pub loop-begin-preserved : goal.loop-begin-preserved
loop-begin-preserved c first second below =
    past_block (λ k. (second : ℕ) → k < second → c.args.block.begin ≤ second → second < c.args.block.end
    → AgainstRule c.args.ring.now k second → ⊥) c.loop-begin.begin c.at-part.result.end
    (λ k l s. c.loop-begin.invariant k s l)
    (λ k from end s. c.long_block_keeps_rule.ensures c.if-not-long_block_keeps_rule.false k s
    (omega (arith, from, c.at-part.ensures.begin)) end) first below second

pub returns : goal.returns
returns c t first second ordered from below =
    c.loop-begin.invariant first second (omega (arith, ordered, below, c.loop-begin-test.false)) ordered from below
