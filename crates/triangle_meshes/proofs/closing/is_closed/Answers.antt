use Rattle.std.proofs.Common.{sym, ◌∙◌}
use Rattle.triangle_meshes.proofs.Ways.{closed_from_ways, ways_from_closed}
use Rattle.triangle_meshes.proofs.closing.is_closed.Goals as goal

pub returns : goal.returns
returns c =
    let ts = c.args.triangles.now in
    let forth = c.in_ok-ways.ensures.forth in
    let back = c.in_ok-ways.ensures.back in (
      λ t. closed_from_ways ts c.requires.ids (λ k. sym (forth k) ∙ c.have_same.ensures.0 t k ∙ back k),
      λ closed. c.have_same.ensures.1 (λ k. forth k ∙ ways_from_closed ts closed k ∙ sym (back k)),
    )
