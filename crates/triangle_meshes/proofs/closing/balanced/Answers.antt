use Rattle.std.proofs.Common.{arith, ◌≡◌, ◌<◌, ◌^◌, true, false, [], refl, sym, ap, ◌∙◌, length, subst, All}
use Rattle.std.proofs.lemmas.List.Elements.{All-more}
use Rattle.fku_types.specs.declared.limits.TheConstants.{MAX_MESH_TRIANGLES}
use Rattle.plane_geom.specs.Rings.{IsClosed}
use Rattle.triangle_meshes.specs.Meshes.{triangle_lists}
use Rattle.triangle_meshes.proofs.Parts.{part_read, few_in_part, all_read}
use Rattle.triangle_meshes.proofs.closing.balanced.Goals as goal

pub is_closed-requires-clause-few : goal.is_closed-requires-clause-few
is_closed-requires-clause-few c =
    let ps = c.args.mesh.now.parts.items in
    let i = c.loop-part.part-index in
    let part = part_read ps c.deref-part-items.result.now i c.part-item.result c.deref.result.now c.deref.ensures.value
    c.deref-part-items.ensures.value c.loop-part-test.true c.part-item.is in
    omega (arith, ap length part.is, few_in_part ps i MAX_MESH_TRIANGLES part.there c.requires.few_triangles)

pub is_closed-requires-clause-ids : goal.is_closed-requires-clause-ids
is_closed-requires-clause-ids c =
    let ps = c.args.mesh.now.parts.items in
    let i = c.loop-part.part-index in
    let part = part_read ps c.deref-part-items.result.now i c.part-item.result c.deref.result.now c.deref.ensures.value
    c.deref-part-items.ensures.value c.loop-part-test.true c.part-item.is in
    subst (All (All (λ id. id < 2 ^ 32))) (sym part.is)
    (λ k d m k' d' m'. omega (arith, c.requires.known_ids i [] part.there k d m k' d' m', c.requires.few_vertices))

pub returns-then-not-branch : goal.returns-then-not-branch
returns-then-not-branch c =
    let ps = c.args.mesh.now.parts.items in
    let i = c.loop-part.part-index in
    let part = part_read ps c.deref-part-items.result.now i c.part-item.result c.deref.result.now c.deref.ensures.value
    c.deref-part-items.ensures.value c.loop-part-test.true c.part-item.is in (
      λ t. absurd (let e : false ≡ true = t in cc),
      λ all. sym c.if-not-branch.true ∙ c.in_ok-is_closed.ensures.1
          (subst IsClosed (sym part.is) (all i [] part.there)),
    )

pub loop-part-preserved : goal.loop-part-preserved
loop-part-preserved c =
    let ps = c.args.mesh.now.parts.items in
    let i = c.loop-part.part-index in
    let part = part_read ps c.deref-part-items.result.now i c.part-item.result c.deref.result.now c.deref.ensures.value
    c.deref-part-items.ensures.value c.loop-part-test.true c.part-item.is in
    All-more IsClosed (triangle_lists ps) i [] part.there c.loop-part.invariant
    (subst IsClosed part.is (c.in_ok-is_closed.ensures.0 c.if-not-branch.false))

pub returns : goal.returns
returns c =
    let all = all_read c.args.mesh.now.parts.items c.deref-part-items.result.now c.loop-part.part-index
    c.deref-part-items.ensures.value c.loop-part-test.false in
    (λ _. subst (All IsClosed) all c.loop-part.invariant, λ _. refl)
