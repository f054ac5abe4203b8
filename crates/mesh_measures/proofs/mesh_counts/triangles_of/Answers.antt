use Rattle.std.proofs.Common.{[], List, ℕ, refl, ap, ◌∙◌}
use Rattle.std.specs.List.{flat_map}
use Rattle.std.proofs.lemmas.List.{get_or_default}
use Rattle.fku_types.proofs.LoopSteps.{put_next}
use Rattle.triangle_meshes.specs.Meshes.{triangle_lists}
use Rattle.triangle_meshes.proofs.Parts.{part_read, all_read}
use Rattle.mesh_measures.proofs.mesh_counts.triangles_of.Goals as goal

pub loop-part-preserved : goal.loop-part-preserved
loop-part-preserved c =
    let ps = c.args.parts.now in
    let i = c.loop-part.part-index in
    let triangles = c.deref.result.now in
    let part = part_read ps ps i c.part-item.result triangles c.deref.ensures.value refl c.loop-part-test.true
    c.part-item.is in
    put_next (λ (p : List (List ℕ)). p) (triangle_lists ps) i triangles [] c.loop-part.triangles.items
    c.extend_from_slice.new.self.items part.there
    (part.is ∙ get_or_default (triangle_lists ps) i [] triangles part.there) c.loop-part.invariant
    c.in_ok-extend_from_slice.ensures.items

pub returns : goal.returns
returns c =
    let ps = c.args.parts.now in
    c.loop-part.invariant ∙ ap (flat_map (λ (p : List (List ℕ)). p))
    (all_read ps ps c.loop-part.part-index refl c.loop-part-test.false)
