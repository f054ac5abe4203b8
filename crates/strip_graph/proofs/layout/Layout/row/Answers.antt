use Rattle.std.proofs.Common.{arith, ◌+◌, ◌*◌, ◌<◌, ℤ, List, Option, length, ap, sym, subst, subst₂, ◌∙◌, unsigned_abs}
use Rattle.std.specs.Prelude.{IfSome}
use Rattle.std.proofs.lemmas.Bool.Decides.{nat_tests}
use Rattle.fku_types.specs.declared.points.Point.{Point}
use Rattle.plane_geom.specs.Rings.{around}
use Rattle.plane_geom.proofs.Signed.{passed_i32}
use Rattle.strip_graph.specs.declared.areas.Edge.{Edge}
use Rattle.strip_graph.specs.Edges.{IsEdge}
use Rattle.strip_graph.specs.Layouts.{IsStripRow}
use Rattle.strip_graph.specs.Strips.{Strip, rows}
use Rattle.strip_graph.proofs.LayoutLaws.{point_fits, laid_ends, laid_first, laid_row}
use Rattle.strip_graph.proofs.layout.Layout.row.Goals as goal
use Rattle.strip_graph.proofs.layout.Layout.row.Goals.{then-is_empty, else-is_empty}

pub of-requires-clause-a : goal.of-requires-clause-a
of-requires-clause-a c =
    let lt = subst (λ (s : Strip). c.args.row < 2 * rows s) (sym c.self.view_is) c.requires in
    point_fits _ c.args.row _ c.self.invariant.strip.low
    (laid_ends _ _ _ _ c.args.row _ _ c.self.invariant lt c.index-from.ensures c.index-to.ensures).0

pub of-requires-clause-b : goal.of-requires-clause-b
of-requires-clause-b c =
    let lt = subst (λ (s : Strip). c.args.row < 2 * rows s) (sym c.self.view_is) c.requires in
    point_fits _ (c.args.row + 1) _ c.self.invariant.strip.low
    (laid_ends _ _ _ _ c.args.row _ _ c.self.invariant lt c.index-from.ensures c.index-to.ensures).1

pub of-requires-clause-height : goal.of-requires-clause-height
of-requires-clause-height c =
    let first = point_fits _ 0 _ c.self.invariant.strip.high (laid_first _ _ _ _ _ c.self.invariant c.index.ensures) in
    omega (arith, first.z, ap unsigned_abs (passed_i32 c.index.result.now.z first.z))

pub invariant_of-result : goal.invariant_of-result
invariant_of-result c =
    let p = c.self.inside.pair.now in
    let edges = c.self.inside.edges.items in
    let from = c.index-from.result.now in
    let to = c.index-to.result.now in
    let lt = subst (λ (s : Strip). c.args.row < 2 * rows s) (sym c.self.view_is) c.requires in
    let ends = laid_ends _ _ _ _ c.args.row _ _ c.self.invariant lt c.index-from.ensures c.index-to.ensures in
    let Has = λ (e : Edge). (0 < length edges) × IsEdge e from to (around p.high 0).z in
    let found : IfSome c.if-is_empty.edge Has = elim c.if-is_empty.branch [
      | then-is_empty w ↦ subst (λ (o : Option Edge). IfSome o Has) (sym w.edge-is) tt
      | else-is_empty w ↦ (let first = laid_first _ _ _ _ _ c.self.invariant w.index.ensures in
          let fits = point_fits _ 0 _ c.self.invariant.strip.high first in
          let height = passed_i32 w.index.result.now.z fits.z ∙ ap (λ (q : Point). q.z) first in
          let some : 0 < length edges = grind (arith, nat_tests) in
          subst (λ (o : Option Edge). IfSome o Has) (sym w.edge-is)
          (some, subst (λ (z : ℤ). IsEdge w.of.result from to z) height w.of.ensures))
    ] in
    subst₂ (λ (points : List Point) (l : List Edge).
    IsStripRow p c.args.row c.cost.result from to points c.if-is_empty.edge l) (sym c.deref.ensures.value)
    (sym c.deref-2.ensures.value)
    (laid_row p _ _ edges c.args.row c.cost.result from to c.if-is_empty.edge c.self.invariant c.cost.ensures.value
    ends.0 ends.1 found)
