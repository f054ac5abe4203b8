use Rattle.std.proofs.Common.{arith, ◌≡◌, ◌<◌, ◌≤◌, length, ◌∙◌}
use Rattle.strip_graph.specs.Strips.{arcs}
use Rattle.row_paths.proofs.StripCostLaws.{set_more}
use Rattle.row_paths.proofs.strip_costs.fill_row.Goals as goal

pub loop-col-preserved : goal.loop-col-preserved
loop-col-preserved g c =
    let value = g.C.Cost.value in
    let strip = c.args.from.now.strip in
    let row = c.args.from.now.row in
    let within : c.loop-col.col < length c.loop-col.costs = omega arith in
    record {
      are = set_more value (λ k n. n ≡ arcs strip row k c.args.step) c.loop-col.costs c.loop-col.col c.of.result within
          c.loop-col.invariant.are (c.of.ensures ∙ c.step_cost-cost.ensures.value);
      small = set_more value (λ k n. n ≤ c.args.limit) c.loop-col.costs c.loop-col.col c.of.result within
          c.loop-col.invariant.small (omega (arith, c.of.ensures, c.if-cost-limit.false));
      steps = omega (arith, c.step_cost-cost.ensures.count, c.loop-col.invariant.steps);
    }
