use Rattle.std.proofs.Common.{◌+◌, List, ℕ, ap, ◌∙◌}
use Rattle.std.specs.Prelude.{count_by}
use Rattle.std.specs.List.{flat_map}
use native.Mathlib.Nat.{zero-add}
use Rattle.plane_geom.specs.Rings.{ring_edges}
use Rattle.triangle_meshes.specs.Keys.{times, is_forth, is_back}
use Rattle.triangle_meshes.proofs.closing.all_ways.Goals as goal

pub returns-clause-forth : goal.returns-clause-forth
returns-clause-forth c =
    λ k. c.in_ok-add_edges.ensures.forth k
    ∙ ap (λ (xs : List ℕ). times k xs + count_by (is_forth k) (flat_map ring_edges c.args.triangles.now))
    c.in_ok-with_capacity.ensures.items ∙ zero-add _

pub returns-clause-back : goal.returns-clause-back
returns-clause-back c =
    λ k. c.in_ok-add_edges.ensures.back k
    ∙ ap (λ (xs : List ℕ). times k xs + count_by (is_back k) (flat_map ring_edges c.args.triangles.now))
    c.in_ok-with_capacity-2.ensures.items ∙ zero-add _
