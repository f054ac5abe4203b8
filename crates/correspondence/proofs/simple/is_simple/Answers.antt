use Rattle.std.proofs.Common.{ℕ, ◌<◌, arith}
use Rattle.correspondence.specs.Simple.{AgainstRule}
use Rattle.correspondence.proofs.BlockLaws.{past_block}
use Rattle.correspondence.proofs.simple.is_simple.Goals as goal

pub loop-begin-preserved : goal.loop-begin-preserved
loop-begin-preserved c e f o w =
    past_block (λ k. (g : ℕ) → g < k → AgainstRule c.args.ring.now g k → ⊥) c.loop-begin.begin
    c.long_at-block.result.end
    (λ k l g p. c.loop-begin.invariant g k p l)
    (λ k from to g p. c.all_keep_rule.ensures c.if-not-all_keep_rule.false g k p
    (omega (arith, from, c.long_at-block.ensures.begin)) to) f w e o

pub returns : goal.returns
returns c t e f o w = c.loop-begin.invariant e f o (omega (arith, w, c.loop-begin-test.false))
