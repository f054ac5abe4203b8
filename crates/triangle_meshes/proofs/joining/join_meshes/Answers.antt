use Rattle.std.proofs.Common.{◌≡◌, ◌+◌, ◌≤◌, ◌∷◌, List, ℕ, map, drop, length, sym, subst, ◌∙◌, arith, All, Vec}
use Rattle.std.specs.declared.alloc.Global.{Global}
use Rattle.std.specs.List.{AllByRecursion}
use Rattle.fku_types.specs.declared.limits.TheConstants.{MAX_MESH_VERTICES}
use Rattle.fku_types.proofs.ListLaws.{drop_next}
use Rattle.plane_geom.specs.Rings.{IsClosed}
use Rattle.triangle_meshes.specs.Meshes.{surface_of, triangle_lists}
use Rattle.triangle_meshes.specs.Joined.{IsBelow, joined}
use Rattle.triangle_meshes.proofs.JoinedMeshes.{few_so_far, all_below, mesh_valid, none_left, all_closed}
use Rattle.triangle_meshes.proofs.joining.join_meshes.Goals as goal

pub add_parts-requires : goal.add_parts-requires
add_parts-requires c =
    let xs = c.args.meshes.now in
    let i = c.loop-mesh.mesh-index in
    let x = c.mesh-item.result in
    let next : drop i xs ≡ x ∷ drop (i + 1) xs = drop_next xs i x c.loop-mesh-test.true c.mesh-item.is in
    let few = few_so_far c.loop-mesh.vertices.items (joined (map surface_of xs)).vertices (drop i xs) x
    (drop (i + 1) xs) c.loop-mesh.invariant.vertices next c.requires.whole.few_vertices in
    let n : c.len.result ≡ length c.loop-mesh.vertices.items = c.len.ensures ∙ c.loop-mesh.vertices.ok.0 in
    let le : c.len.result + length x.vertices.items ≤ MAX_MESH_VERTICES = omega (arith, n, few) in
    subst (λ (ps : List (Vec (List ℕ) Global)).
    AllByRecursion (AllByRecursion (IsBelow c.len.result)) (triangle_lists ps)) (sym c.deref.ensures.value)
    (all_below c.len.result (surface_of x) (mesh_valid xs i x c.requires.each c.loop-mesh-test.true c.mesh-item.is) le)

pub returns-clause-closed : goal.returns-clause-closed
returns-clause-closed c closed =
    let xs = c.args.meshes.now in
    let is = none_left (triangle_lists c.loop-mesh.parts.items) (joined (map surface_of xs)).parts
    (length c.loop-mesh.vertices.items) xs c.loop-mesh.mesh-index c.loop-mesh-test.false c.loop-mesh.invariant.parts
    in
    subst (All IsClosed) (sym is) (all_closed (map surface_of xs) closed)
