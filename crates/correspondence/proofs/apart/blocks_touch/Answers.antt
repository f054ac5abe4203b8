use Rattle.std.proofs.Common.{◌<◌, ◌≤◌, suc, length, arith}
use borrow.Author.Count.{below_more}
use Rattle.plane_geom.specs.Rings.{around}
use Rattle.correspondence.specs.Simple.{EdgesMeet}
use Rattle.correspondence.proofs.Rules.{edge_touches, edges_meet, untrue}
use Rattle.correspondence.proofs.Enclosed.{sharing_bounds_meet}
use Rattle.correspondence.proofs.apart.blocks_touch.Goals as goal

pub returns-then-not-meet-clause-all : goal.returns-then-not-meet-clause-all
returns-then-not-meet-clause-all c e f from below start end s =
    let one = c.args.one.now in
    let other = c.args.other.now in
    let p = c.requires.part in
    let b = c.requires.block in
    let meet = sharing_bounds_meet c.args.part.bounds c.args.block.bounds (around one e) (around one (suc e))
    (around other f) (around other (suc f)) s
    (p.enclosed e from (omega arith)) (p.enclosed (suc e) (omega arith) (omega arith))
    (b.enclosed f start (omega arith)) (b.enclosed (suc f) (omega arith) (omega arith)) in
    absurd (untrue c.meet.result c.if-not-meet.true (c.meet.ensures.1 meet))

pub returns-then-segment_touches-clause-found : goal.returns-then-segment_touches-clause-found
returns-then-segment_touches-clause-found c t =
    let within : c.loop-edge.edge < length c.args.one.now =
    omega (arith, c.loop-edge-test.true, c.requires.part.within) in
    edge_touches c.args.one.now c.args.other.now c.loop-edge.edge c.edge_end.result within c.edge_end.ensures.value
    (c.segment_touches.ensures.found c.if-segment_touches.true)

pub loop-edge-preserved : goal.loop-edge-preserved
loop-edge-preserved c e f start l from below =
    let one = c.args.one.now in
    let other = c.args.other.now in
    let within : c.loop-edge.edge < length c.args.one.now =
    omega (arith, c.loop-edge-test.true, c.requires.part.within) in
    below_more (λ k. c.args.part.begin ≤ k → EdgesMeet one k other f → ⊥) c.loop-edge.edge
    (λ k l s. c.loop-edge.invariant k f s l from below)
    (λ g s. untrue c.segment_touches.result c.if-segment_touches.false
    (c.segment_touches.ensures.all f from below
    (edges_meet one other c.loop-edge.edge f c.edge_end.result within c.edge_end.ensures.value s))) e l start

pub returns-clause-all : goal.returns-clause-all
returns-clause-all c e f start w from below s =
    absurd (c.loop-edge.invariant e f start (omega (arith, w, c.loop-edge-test.false)) from below s)
