use Rattle.std.proofs.Common.{◌+◌, ◌<◌, arith, sym, ap, ◌∙◌, subst}
use Rattle.fku_types.specs.declared.rules.CostRule.{CostRule}
use Rattle.plane_geom.specs.Rings.{origin}
use Rattle.std.specs.Prelude.{slice_index_or}
use Rattle.strip_graph.specs.Strips.{cols, h_cost}
use Rattle.strip_graph.specs.Layouts.{StripRow}
use Rattle.strip_graph.proofs.LayoutLaws.{row_fits, row_h_cost}
use Rattle.strip_graph.proofs.layout.RowSteps.h_cost.Goals as goal

pub tile_area-requires-clause-a : goal.tile_area-requires-clause-a
tile_area-requires-clause-a g c =
    let lt = subst (λ (r : StripRow). c.args.col < cols r.strip) (sym c.self.view_is) c.requires in
    (row_fits _ _ _ _ _ _ _ _ c.self.invariant).3 (c.args.col + 1) (omega (arith, lt))

pub tile_area-requires-clause-b : goal.tile_area-requires-clause-b
tile_area-requires-clause-b g c =
    let lt = subst (λ (r : StripRow). c.args.col < cols r.strip) (sym c.self.view_is) c.requires in
    (row_fits _ _ _ _ _ _ _ _ c.self.invariant).3 c.args.col (omega (arith, lt))

pub tile_area-requires-clause-c : goal.tile_area-requires-clause-c
tile_area-requires-clause-c g c = (row_fits _ _ _ _ _ _ _ _ c.self.invariant).1

pub h_cost-requires-clause-from : goal.h_cost-requires-clause-from
h_cost-requires-clause-from g c =
    let lt = subst (λ (r : StripRow). c.args.col < cols r.strip) (sym c.self.view_is) c.requires in
    (row_fits _ _ _ _ _ _ _ _ c.self.invariant).3 c.args.col (omega (arith, lt))

pub h_cost-requires-clause-to : goal.h_cost-requires-clause-to
h_cost-requires-clause-to g c =
    let lt = subst (λ (r : StripRow). c.args.col < cols r.strip) (sym c.self.view_is) c.requires in
    (row_fits _ _ _ _ _ _ _ _ c.self.invariant).3 (c.args.col + 1) (omega (arith, lt))

pub h_cost-requires-clause-across : goal.h_cost-requires-clause-across
h_cost-requires-clause-across g c = (row_fits _ _ _ _ _ _ _ _ c.self.invariant).1

pub returns-in-Area-clause-value : goal.returns-in-Area-clause-value
returns-in-Area-clause-value g c =
    let within = subst (λ (r : StripRow). c.args.col < cols r.strip) (sym c.self.view_is) c.requires in
    let points = c.self.inside.high.now in
    c.tile_area.ensures.value
    ∙ ap (λ (r : CostRule). h_cost r (slice_index_or points c.args.col origin)
    (slice_index_or points (c.args.col + 1) origin) c.self.inside.from) (sym c.in-Area.is)
    ∙ row_h_cost c.self.inside.pair.now c.self.inside.row c.args.col c.self.inside.rule c.self.inside.from
    c.self.inside.to points c.self.inside.edge c.self.inside.edges.now c.args.self.now c.self.invariant
    (sym c.self.view_is) within

pub returns-in_default : goal.returns-in_default
returns-in_default g c =
    let within = subst (λ (r : StripRow). c.args.col < cols r.strip) (sym c.self.view_is) c.requires in
    record {
      value = c.h_cost.ensures.value ∙ row_h_cost c.self.inside.pair.now c.self.inside.row c.args.col c.self.inside.rule
          c.self.inside.from c.self.inside.to c.self.inside.high.now c.self.inside.edge c.self.inside.edges.now
          c.args.self.now c.self.invariant (sym c.self.view_is) within;
      range = c.h_cost.ensures.range;
      count = c.tick.ensures;
    }
