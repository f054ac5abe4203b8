use Rattle.std.proofs.Common.{suc, ◌<◌, ◌≤◌, length, arith}
use borrow.Author.Count.{below_more}
use Rattle.plane_geom.specs.Rings.{around}
use Rattle.plane_geom.specs.Segments.{SharePoint}
use Rattle.correspondence.proofs.Rules.{segment_decides, untrue}
use Rattle.correspondence.proofs.Beyond.{not_shared}
use Rattle.correspondence.proofs.apart.segment_touches.Goals as goal
use Rattle.plane_geom.proofs.SharedInLine.{exchange_both}

pub returns-then-leave_out-clause-all : goal.returns-then-leave_out-clause-all
returns-then-leave_out-clause-all c f from below s =
    let b = c.requires.block in
    let ring = c.args.ring.now in
    let out = c.leave_out.ensures.0 c.if-leave_out.true in
    absurd (not_shared c.args.block.bounds (around ring f) (around ring (suc f)) c.args.a c.args.b out
    (b.enclosed f from (omega arith)) (b.enclosed (suc f) (omega arith) (omega arith))
    (exchange_both (around ring f) (around ring (suc f)) c.args.a c.args.b s))

pub returns-then-meets-clause-found : goal.returns-then-meets-clause-found
returns-then-meets-clause-found c t =
    let within : c.loop-place.place < length c.args.ring.now =
    omega (arith, c.loop-place-test.true, c.requires.block.within) in
    let m = segment_decides c.args.a c.args.b c.args.ring.now c.loop-place.place c.meets.result c.edge_end.result within
    c.edge_end.ensures.value c.meets.ensures in
    record { f = c.loop-place.place; within = within; meet = m.0 c.if-meets.true }

pub loop-place-preserved : goal.loop-place-preserved
loop-place-preserved c f from below =
    let ring = c.args.ring.now in
    let m = segment_decides c.args.a c.args.b ring c.loop-place.place c.meets.result c.edge_end.result
    (omega (arith, c.loop-place-test.true, c.requires.block.within)) c.edge_end.ensures.value c.meets.ensures in
    below_more (λ k. c.args.block.begin ≤ k → SharePoint c.args.a c.args.b (around ring k) (around ring (suc k)) → ⊥)
    c.loop-place.place
    (λ k l g. c.loop-place.invariant k g l) (λ g s. untrue c.meets.result c.if-meets.false (m.1 s)) f below from

pub returns-clause-all : goal.returns-clause-all
returns-clause-all c f from below s =
    absurd (c.loop-place.invariant f from (omega (arith, below, c.loop-place-test.false)) s)
