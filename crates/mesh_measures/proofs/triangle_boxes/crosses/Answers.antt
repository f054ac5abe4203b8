use Rattle.std.proofs.Common.{◌∙◌, sym}
use Rattle.mesh_measures.proofs.Apart.{unmet}
use Rattle.mesh_measures.proofs.triangle_boxes.crosses.Goals as goal

pub returns-else-boxes_meet : goal.returns-else-boxes_meet
returns-else-boxes_meet c =
    c.if-boxes_meet.false
    ∙ sym (unmet c.args.s.now c.args.t.now c.requires.s c.requires.t (sym c.boxes_meet.ensures ∙ c.if-boxes_meet.false))
