use Rattle.std.proofs.Common.{◌≡◌, ◌+◌, ◌*◌, ◌≤◌, map, take, length}
use Rattle.strip_graph.specs.Strips.{arcs, rows}
use Rattle.row_paths.specs.StripCosts.{AreFirstCosts}
use Rattle.row_paths.proofs.strip_costs.fill_rows.Given as goal

abbrev pub invariant-loop-row : goal.invariant-loop-row
invariant-loop-row g l = record {
  count : length l.costs.items ≡ rows l.layout * l.size;
  are : AreFirstCosts l.limit (λ r c. arcs l.layout r c l.step) l.size
      (map g.C.Cost.value (take (l.row * l.size) l.costs.items));
  steps : l.steps ≤ l.fn.steps + l.row * l.size;
}
