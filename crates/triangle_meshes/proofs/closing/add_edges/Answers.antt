use Rattle.std.proofs.Common.{◌≡◌, ◌+◌, ℕ, List, [], ◌∷◌, get_or, ap, ◌∙◌, take_all}
use Rattle.std.specs.Prelude.{count_by}
use Rattle.std.specs.List.{flat_map}
use Rattle.plane_geom.specs.Rings.{ring_edges}
use Rattle.triangle_meshes.proofs.TriangleCounts.{three_is}
use Rattle.triangle_meshes.specs.Keys.{times, is_forth, is_back}
use Rattle.triangle_meshes.proofs.Ways.{ways_step}
use Rattle.triangle_meshes.proofs.closing.add_edges.Goals as goal

pub loop-triangle-preserved : goal.loop-triangle-preserved
loop-triangle-preserved c =
    let ts = c.args.triangles.now in
    let i = c.loop-triangle.triangle-index in
    let l = c.loop-triangle-test.true in
    let t : List ℕ = get_or ts i [] in
    let three : get_or t 0 0 ∷ get_or t 1 0 ∷ get_or t 2 0 ∷ [] ≡ t = three_is t (c.told-triangles i l) in
    let inv = c.loop-triangle.invariant in
    record {
      forth = λ k. ways_step (is_forth k) ts i (get_or t 0 0) (get_or t 1 0) (get_or t 2 0) _ _ _ _ _ l three
          (inv.forth k) (c.in_ok-add_edge.ensures.forth k) (c.in_ok-add_edge-2.ensures.forth k)
          (c.in_ok-add_edge-3.ensures.forth k);
      back = λ k. ways_step (is_back k) ts i (get_or t 0 0) (get_or t 1 0) (get_or t 2 0) _ _ _ _ _ l three
          (inv.back k) (c.in_ok-add_edge.ensures.back k) (c.in_ok-add_edge-2.ensures.back k)
          (c.in_ok-add_edge-3.ensures.back k);
    }

pub returns-clause-forth : goal.returns-clause-forth
returns-clause-forth c =
    λ k. c.loop-triangle.invariant.forth k
    ∙ ap (λ (xs : List (List ℕ)). times k c.args.ways.now.forth.items + count_by (is_forth k) (flat_map ring_edges xs))
    (take_all c.loop-triangle.triangle-index c.args.triangles.now c.loop-triangle-test.false)

pub returns-clause-back : goal.returns-clause-back
returns-clause-back c =
    λ k. c.loop-triangle.invariant.back k
    ∙ ap (λ (xs : List (List ℕ)). times k c.args.ways.now.back.items + count_by (is_back k) (flat_map ring_edges xs))
    (take_all c.loop-triangle.triangle-index c.args.triangles.now c.loop-triangle-test.false)
