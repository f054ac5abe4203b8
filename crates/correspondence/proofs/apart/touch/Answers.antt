use Rattle.std.proofs.Common.{refl, arith}
use Rattle.correspondence.specs.Simple.{EdgesMeet}
use Rattle.correspondence.proofs.Rules.{untrue}
use Rattle.correspondence.proofs.BlockLaws.{past_block}
use Rattle.correspondence.proofs.Enclosed.{bounds_meet, apart_by_bounds}
use Rattle.correspondence.proofs.apart.touch.Goals as goal

pub returns-then-not-meet : goal.returns-then-not-meet
returns-then-not-meet c =
    apart_by_bounds c.meet.result _ _ c.if-not-meet.true c.meet.ensures
    (bounds_meet c.of.result c.of-bounds.result c.args.one.now c.args.other.now c.of.ensures c.of-bounds.ensures)

pub returns-then-block_touches : goal.returns-then-block_touches
returns-then-block_touches c = (λ t. c.block_touches.ensures.found c.if-block_touches.true, λ t. refl)

pub loop-begin-preserved : goal.loop-begin-preserved
loop-begin-preserved c e f l within =
    past_block (λ k. EdgesMeet c.args.one.now k c.args.other.now f → ⊥) c.loop-begin.begin c.long_at-part.result.end
    (λ k l. c.loop-begin.invariant k f l within)
    (λ k from below s. untrue c.block_touches.result c.if-block_touches.false
    (c.block_touches.ensures.all k f (omega (arith, from, c.long_at-part.ensures.begin)) below within s)) e l

pub returns : goal.returns
returns c = (
  λ t. cc,
  λ w. absurd (c.loop-begin.invariant w.e w.edge.f
      (omega (arith, w.within, c.loop-begin-test.false)) w.edge.within w.edge.meet),
)
