use Rattle.std.proofs.Common.{ap, ap₂, ◌∙◌, ℕ, ◌+◌}
use Rattle.fku_types.specs.Points.{square}
use Rattle.strip_graph.specs.Strips.{area_square}
use Rattle.strip_graph.proofs.EdgeLaws.{passed_difference, same_cross}
use Rattle.strip_graph.proofs.areas.area_square.Goals as goal

pub returns-clause-value : goal.returns-clause-value
unfolding area_square
returns-clause-value c =
    let a = c.requires.a in
    let b = c.requires.b in
    let d = c.requires.c in
    let bx = passed_difference c.args.b.x c.args.a.x c.difference-bx.result b.x a.x c.difference-bx.ensures.value
    c.difference-bx.ensures.range in
    let by' = passed_difference c.args.b.y c.args.a.y c.difference-by.result b.y a.y c.difference-by.ensures.value
    c.difference-by.ensures.range in
    let bz = passed_difference c.args.b.z c.args.a.z c.difference-bz.result b.z a.z c.difference-bz.ensures.value
    c.difference-bz.ensures.range in
    let cx = passed_difference c.args.c.x c.args.a.x c.difference-cx.result d.x a.x c.difference-cx.ensures.value
    c.difference-cx.ensures.range in
    let cy = passed_difference c.args.c.y c.args.a.y c.difference-cy.result d.y a.y c.difference-cy.ensures.value
    c.difference-cy.ensures.range in
    let cz = passed_difference c.args.c.z c.args.a.z c.difference-cz.result d.z a.z c.difference-cz.ensures.value
    c.difference-cz.ensures.range in
    let one = c.cross_square.ensures.value ∙ ap square (same_cross _ _ _ _ _ _ _ _ by' bz cy cz) in
    let two = c.cross_square-2.ensures.value ∙ ap square (same_cross _ _ _ _ _ _ _ _ bz bx cz cx) in
    let three = c.cross_square-3.ensures.value ∙ ap square (same_cross _ _ _ _ _ _ _ _ bx by' cx cy) in
    ap₂ (λ (x y : ℕ). x + y) (ap₂ (λ (x y : ℕ). x + y) one two) three
