use Rattle.std.proofs.Common.{ℕ, length, min, ap, ◌∙◌}
use Rattle.fku_types.specs.Points.{IsInRange}
use Rattle.byu_text.proofs.TextLaws.{vertices_more, all_after}
use Rattle.byu_text.proofs.texts.write_vertices.Goals as goal

pub loop-points-preserved : goal.loop-points-preserved
loop-points-preserved c =
    let left = c.loop-points.points-iterator.rest.now in
    let rest = c.next.new.self.rest.now in
    let points = c.in-Some.points.now in
    let step = c.in-Some.ensures.steps in
    record {
      lines = vertices_more points rest left c.loop-points.text.items c.put_points.new.text.items _ step.1.0
          (step.1.1 ∙ ap (λ (n : ℕ). min n (length left)) c.loop-points.invariant.two) step.1.2
          c.in_ok-put_points.ensures c.loop-points.invariant.lines;
      two = step.0 ∙ c.loop-points.invariant.two;
      range = all_after IsInRange points rest left step.1.0 c.loop-points.invariant.range;
    }
