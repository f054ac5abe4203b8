use Rattle.std.proofs.Common.{◌≤◌, Option, sym, ◌∙◌, subst, slice_index_or}
use Rattle.std.specs.Prelude.{IfSome}
use Rattle.plane_geom.specs.Rings.{origin}
use Rattle.strip_graph.specs.declared.areas.Edge.{Edge}
use Rattle.strip_graph.specs.Edges.{IsEdge}
use Rattle.strip_graph.specs.Strips.{cols}
use Rattle.strip_graph.specs.Layouts.{StripRow}
use Rattle.strip_graph.proofs.LayoutLaws.{row_fits, behind, row_edge, row_v_cost}
use Rattle.strip_graph.proofs.layout.RowSteps.v_cost.Goals as goal

pub v_cost-requires-clause-rule : goal.v_cost-requires-clause-rule
v_cost-requires-clause-rule g c = (row_fits _ _ _ _ _ _ _ _ c.self.invariant).0

pub v_cost-requires-clause-from : goal.v_cost-requires-clause-from
v_cost-requires-clause-from g c = (row_fits _ _ _ _ _ _ _ _ c.self.invariant).1

pub v_cost-requires-clause-to : goal.v_cost-requires-clause-to
v_cost-requires-clause-to g c = (row_fits _ _ _ _ _ _ _ _ c.self.invariant).2

pub v_cost-requires-clause-across : goal.v_cost-requires-clause-across
v_cost-requires-clause-across g c =
    (row_fits _ _ _ _ _ _ _ _ c.self.invariant).3 c.args.col
    (subst (λ (r : StripRow). c.args.col ≤ cols r.strip) (sym c.self.view_is) c.requires)

pub v_cost-requires-clause-edge : goal.v_cost-requires-clause-edge
v_cost-requires-clause-edge g c =
    let P = λ (e : Edge). IsEdge e c.self.inside.from c.self.inside.to
    (slice_index_or c.self.inside.high.now c.args.col origin).z in
    behind P c.as_ref.result (subst (λ (o : Option Edge). IfSome o P) (sym c.as_ref.ensures.value)
    (row_edge _ _ c.args.col _ _ _ _ _ _ c.self.invariant
    (subst (λ (r : StripRow). c.args.col ≤ cols r.strip) (sym c.self.view_is) c.requires)))

pub returns-clause-value : goal.returns-clause-value
returns-clause-value g c =
    let within = subst (λ (r : StripRow). c.args.col ≤ cols r.strip) (sym c.self.view_is) c.requires in
    c.v_cost.ensures.value ∙ row_v_cost c.self.inside.pair.now c.self.inside.row c.args.col c.self.inside.rule
    c.self.inside.from c.self.inside.to c.self.inside.high.now c.self.inside.edge c.self.inside.edges.now
    c.args.self.now c.self.invariant (sym c.self.view_is) within
