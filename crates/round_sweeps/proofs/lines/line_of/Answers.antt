use Rattle.std.proofs.Common.{ℕ, ap, arith}
use Rattle.std.proofs.lemmas.Int.{ints}
use Rattle.fku_types.specs.declared.points.Point.{Point}
use Rattle.plane_geom.specs.Rings.{around}
use Rattle.round_sweeps.proofs.LineLaws.{values_more, planar_line}
use Rattle.round_sweeps.proofs.lines.line_of.Goals as goal

pub loop-index-preserved : goal.loop-index-preserved
loop-index-preserved c =
    let ring = c.args.ring.now in
    let k : ℕ = c.loop-index.index in
    let done = c.loop-index.invariant in
    let p = c.point_at-point.ensures in
    record {
      x_count = omega (arith, c.in_ok-push.ensures.len, done.x_count);
      y_count = omega (arith, c.in_ok-push-2.ensures.len, done.y_count);
      x_are = values_more (λ (j : ℕ). (around ring j).x) c.loop-index.xs.items c.push.new.self.items _ k done.x_count
          c.in_ok-push.ensures.items (omega (arith, ints, c.from.ensures, p.range.x, ap (λ (q : Point). q.x) p.value))
          done.x_are;
      y_are = values_more (λ (j : ℕ). (around ring j).y) c.loop-index.ys.items c.push-in-loop-index.new.self.items _ k
          done.y_count c.in_ok-push-2.ensures.items
          (omega (arith, ints, c.from-in-loop-index.ensures, p.range.y, ap (λ (q : Point). q.y) p.value)) done.y_are;
    }

pub invariant_of-result : goal.invariant_of-result
invariant_of-result c = record {
  line =
      planar_line c.args.ring.now c.loop-index.index c.loop-index.xs.items c.loop-index.ys.items c.requires.ring
      c.loop-index.invariant;
}
