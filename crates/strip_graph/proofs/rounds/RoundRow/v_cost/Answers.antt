use Rattle.std.proofs.Common.{sym, ◌∙◌}
use Rattle.strip_graph.proofs.LayoutLaws.{round_row_fits, round_v_cost}
use Rattle.strip_graph.proofs.rounds.RoundRow.v_cost.Goals as goal

pub v_cost-requires-clause-rule : goal.v_cost-requires-clause-rule
v_cost-requires-clause-rule c = (round_row_fits _ _ _ _ _ _ c.self.invariant).0

pub v_cost-requires-clause-from : goal.v_cost-requires-clause-from
v_cost-requires-clause-from c = (round_row_fits _ _ _ _ _ _ c.self.invariant).1

pub v_cost-requires-clause-to : goal.v_cost-requires-clause-to
v_cost-requires-clause-to c = (round_row_fits _ _ _ _ _ _ c.self.invariant).2

pub returns-clause-value : goal.returns-clause-value
returns-clause-value c =
    c.v_cost.ensures.value ∙ round_v_cost c.self.inside.pair.now c.self.inside.row c.args.col c.self.inside.rule
    c.self.inside.from c.self.inside.to c.around-across.result c.self.inside.high.now c.args.self.now
    c.self.invariant (sym c.self.view_is) c.around-across.ensures.value
