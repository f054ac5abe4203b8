use Rattle.std.proofs.Common.{add-one, subst}
use Rattle.plane_geom.specs.Rings.{around}
use Rattle.correspondence.specs.Bounding.{LiesWithin}
use Rattle.correspondence.proofs.Rules.{begin_at, end_at}
use Rattle.correspondence.proofs.Enclosed.{against_bounds_meet, apart_by_bounds}
use Rattle.correspondence.proofs.simple.is_partner.Goals as goal

pub returns-then-not-meet : goal.returns-then-not-meet
returns-then-not-meet c =
    let ring = c.args.ring.now in
    let e = c.args.first in
    let f = c.args.second in
    let edge = c.of_edge-edge in
    let begin = subst (LiesWithin edge.result) (begin_at ring f c.requires.within) edge.ensures.0 in
    let end = subst (LiesWithin edge.result) (end_at ring f c.edge_end.result c.edge_end.ensures.value) edge.ensures.1
    in
    let after = subst (λ k. LiesWithin c.args.bounds (around ring k)) (add-one e) c.requires.end in
    apart_by_bounds c.meet.result _ _ c.if-not-meet.true c.meet.ensures
    (λ a. against_bounds_meet c.args.bounds edge.result ring e f c.requires.begin after begin end a)
