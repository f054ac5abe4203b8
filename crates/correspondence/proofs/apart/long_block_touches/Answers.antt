use Rattle.std.proofs.Common.{suc, ◌≤◌, arith}
use Rattle.plane_geom.specs.Rings.{around}
use Rattle.correspondence.specs.Simple.{EdgesMeet}
use Rattle.correspondence.proofs.Rules.{untrue}
use Rattle.correspondence.proofs.BlockLaws.{past_block}
use Rattle.correspondence.proofs.Enclosed.{sharing_bounds_meet}
use Rattle.correspondence.proofs.apart.long_block_touches.Goals as goal

pub returns-then-not-meet-clause-all : goal.returns-then-not-meet-clause-all
returns-then-not-meet-clause-all c e f from below start end s =
    let one = c.args.one.now in
    let other = c.args.other.now in
    let p = c.requires.part in
    let b = c.requires.block in
    let meet = sharing_bounds_meet c.args.part.bounds c.args.block.bounds (around one e) (around one (suc e))
    (around other f) (around other (suc f)) s
    (p.enclosed e from (omega arith)) (p.enclosed (suc e) (omega arith) (omega arith))
    (b.enclosed f start (omega arith)) (b.enclosed (suc f) (omega arith) (omega arith)) in
    absurd (untrue c.meet.result c.if-not-meet.true (c.meet.ensures.1 meet))

pub returns-then-blocks_touch-clause-found : goal.returns-then-blocks_touch-clause-found
returns-then-blocks_touch-clause-found c t = c.blocks_touch.ensures.found c.if-blocks_touch.true

pub loop-begin-preserved : goal.loop-begin-preserved
loop-begin-preserved c e f start below from end =
    past_block (λ k. c.args.part.begin ≤ k → EdgesMeet c.args.one.now k c.args.other.now f → ⊥) c.loop-begin.begin
    c.at-short.result.end
    (λ k l g. c.loop-begin.invariant k f g l from end)
    (λ k here to g s. untrue c.blocks_touch.result c.if-blocks_touch.false
    (c.blocks_touch.ensures.all k f (omega (arith, here, c.at-short.ensures.begin)) to from end s)) e below start

pub returns-clause-all : goal.returns-clause-all
returns-clause-all c e f start w from below s =
    absurd (c.loop-begin.invariant e f start (omega (arith, w, c.loop-begin-test.false)) from below s)
