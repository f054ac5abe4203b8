use Rattle.std.proofs.Common.{arith, ◌<◌, refl, sym, subst}
use Rattle.std.specs.Prelude.{IsSome}
use Rattle.strip_graph.specs.Strips.{cols}
use Rattle.strip_graph.specs.Layouts.{StripRow}
use Rattle.strip_graph.proofs.LayoutLaws.{col_edge}
use Rattle.strip_graph.proofs.layout.RowSteps.edge_from.Goals as goal

pub bounds-self-inside-col : goal.bounds-self-inside-col
bounds-self-inside-col c =
    let lt = subst (λ (r : StripRow). c.args.col < cols r.strip) (sym c.self.view_is) c.requires in
    omega (arith, lt, (c.self.invariant.col_edges (subst IsSome (sym c.in-Some.is) refl)).count)

pub returns-in-Some : goal.returns-in-Some
returns-in-Some c =
    col_edge c.self.inside.pair.now c.self.inside.row c.args.col c.self.inside.rule c.self.inside.from c.self.inside.to
    c.self.inside.high.now c.self.inside.edge c.self.inside.edges.now c.args.self.now _ c.self.invariant
    (sym c.self.view_is) (subst IsSome (sym c.in-Some.is) refl) c.requires
