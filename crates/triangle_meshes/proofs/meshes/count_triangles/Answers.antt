use Rattle.std.proofs.Common.{arith, [], length, refl, ap, ◌∙◌}
use Rattle.std.proofs.lemmas.List.Sums.{sum_by_more}
use Rattle.triangle_meshes.specs.Meshes.{triangle_lists}
use Rattle.triangle_meshes.proofs.Parts.{part_read}
use Rattle.triangle_meshes.proofs.meshes.count_triangles.Goals as goal

pub loop-part-preserved : goal.loop-part-preserved
loop-part-preserved c =
    let ps = c.args.parts.now in
    let i = c.loop-part.part-index in
    let part = part_read ps ps i c.part-item.result c.part-item.result.items refl refl c.loop-part-test.true
    c.part-item.is in
    omega (
      arith,
      c.loop-part.invariant,
      c.len-count.ensures ∙ c.part-item.result.ok.0 ∙ ap length part.is,
      sum_by_more length (triangle_lists ps) i [] part.there,
    )
