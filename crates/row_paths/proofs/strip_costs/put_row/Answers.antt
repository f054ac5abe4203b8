use Rattle.std.proofs.Common.{ℕ, ◌*◌, ap}
use Rattle.strip_graph.specs.Strips.{arcs}
use Rattle.row_paths.proofs.StripCostLaws.{row_put}
use Rattle.row_paths.proofs.strip_costs.put_row.Goals as goal

pub returns-clause-are : goal.returns-clause-are
returns-clause-are g c t =
    let from = c.args.from.now in
    let size = c.args.size in
    row_put g.C.Cost.value c.args.limit (λ (r k : ℕ). arcs from.strip r k c.args.step) size from.row
    (c.row.result * size) _ c.args.costs.now c.fill_row.new.costs
    (ap (λ (r : ℕ). r * size) c.row.ensures) c.requires.room c.fill_row.ensures.count (c.fill_row.ensures.are t)
    (c.fill_row.ensures.small t) c.requires.are
