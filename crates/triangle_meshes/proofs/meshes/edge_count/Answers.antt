use Rattle.std.proofs.Common.{arith, ◌≡◌, [], length, ap, sym, ◌∙◌, refl, subst}
use Rattle.std.specs.Prelude.{IfSome}
use Rattle.std.proofs.lemmas.List.{length-map}
use Rattle.std.proofs.lemmas.Option.{slice_get-get_or}
use Rattle.fku_types.specs.declared.limits.TheConstants.{MAX_MESH_TRIANGLES}
use Rattle.plane_geom.specs.Rings.{edge_count}
use Rattle.triangle_meshes.specs.Meshes.{triangle_lists}
use Rattle.triangle_meshes.proofs.Parts.{Part, part_read, few_in_part}
use Rattle.triangle_meshes.proofs.meshes.edge_count.Goals as goal

pub count_all-requires : goal.count_all-requires
count_all-requires c =
    let ps = c.args.mesh.now.parts.items in
    let i = c.args.part in
    let part = part_read ps ps i c.index.result.now c.deref.result.now c.deref.ensures.value refl
    (omega (arith, length-map ps (λ (x : Part). x.items))) c.index.ensures in
    omega (arith, ap length part.is, few_in_part ps i MAX_MESH_TRIANGLES part.there c.requires.valid.few_triangles)

pub returns : goal.returns
returns c =
    let ps = c.args.mesh.now.parts.items in
    let i = c.args.part in
    let part = part_read ps ps i c.index.result.now c.deref.result.now c.deref.ensures.value refl
    (omega (arith, length-map ps (λ (x : Part). x.items))) c.index.ensures in
    subst (λ o. IfSome o (λ t. c.count_all.result ≡ edge_count t c.args.u c.args.v))
    (sym (slice_get-get_or (triangle_lists ps) i [] c.requires.part))
    (c.count_all.ensures ∙ ap (λ t. edge_count t c.args.u c.args.v) part.is)
