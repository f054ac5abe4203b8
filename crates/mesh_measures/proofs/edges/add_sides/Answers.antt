use Rattle.std.proofs.Common.{inl, inr}
use Rattle.triangle_meshes.specs.Keys.{times}
use Rattle.mesh_measures.proofs.Often.{two_added, third_added, third_there}
use Rattle.mesh_measures.proofs.edges.add_sides.Goals as goal
use Rattle.mesh_measures.proofs.edges.add_sides.Goals.{then-bc-ab+in_ok-push-2, else-bc-ab, else-ca-ab-via-then-ca-ab+else-ca-bc, else-ca-ab-via-else-ca-ab}

pub returns-in_ok-push-3-clause-times : goal.returns-in_ok-push-3-clause-times
returns-in_ok-push-3-clause-times c =
    let a = c.args in
    λ k. third_added k a.ab a.bc a.ca (times k a.keys.now.items) c.if-bc-ab.keys.items c.push-then-ca-bc.new.self.items
    (two_added k a.ab a.bc a.keys.now.items c.push.new.self.items c.if-bc-ab.keys.items c.in_ok-push.ensures.items
    (elim c.if-bc-ab.branch [
      | then-bc-ab+in_ok-push-2 w ↦ inl (w.if-bc-ab.true, cc (w.in_ok-push-2.ensures.items))
      | else-bc-ab w ↦ inr (w.if-bc-ab.false, cc)
    ])) c.if-ca-ab.true c.if-ca-bc.true c.in_ok-push-3.ensures.items

pub returns-else-ca-ab-clause-times : goal.returns-else-ca-ab-clause-times
returns-else-ca-ab-clause-times c =
    let a = c.args in
    λ k. third_there k a.ab a.bc a.ca (times k a.keys.now.items) (times k c.if-bc-ab.keys.items)
    (two_added k a.ab a.bc a.keys.now.items c.push.new.self.items c.if-bc-ab.keys.items c.in_ok-push.ensures.items
    (elim c.if-bc-ab.branch [
      | then-bc-ab+in_ok-push-2 w ↦ inl (w.if-bc-ab.true, cc (w.in_ok-push-2.ensures.items))
      | else-bc-ab w ↦ inr (w.if-bc-ab.false, cc)
    ]))
    (elim c.else-ca-ab.branch [
      | else-ca-ab-via-then-ca-ab+else-ca-bc w ↦ inr w.if-ca-bc.false
      | else-ca-ab-via-else-ca-ab w ↦ inl w.if-ca-ab.false
    ])
