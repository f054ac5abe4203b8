use Rattle.std.proofs.Common.{◌++◌, ℕ, List, [], get_or, ap, ◌∙◌}
use Rattle.triangle_meshes.proofs.TriangleCounts.{three_is}
use Rattle.byu_text.specs.Byu.{polygon_line}
use Rattle.byu_text.proofs.TextLaws.{pieces_more}
use Rattle.byu_text.proofs.texts.write_polygons.Goals as goal

pub loop-triangle-preserved : goal.loop-triangle-preserved
loop-triangle-preserved c =
    let ts = c.args.triangles.now in
    let i = c.loop-triangle.triangle-index in
    let t : List ℕ = get_or ts i [] in
    pieces_more polygon_line c.args.text.now.items c.loop-triangle.text.items c.put_triangle.new.text.items ts i []
    c.loop-triangle-test.true c.loop-triangle.invariant
    (c.in_ok-put_triangle.ensures ∙ ap (λ (l : List ℕ). c.loop-triangle.text.items ++ polygon_line l)
    (three_is t (c.told-triangles i c.loop-triangle-test.true)))
