use Rattle.std.proofs.Common.{sym, ◌∙◌}
use Rattle.strip_graph.proofs.LayoutLaws.{round_row_fits, round_h_cost}
use Rattle.strip_graph.proofs.rounds.RoundRow.h_cost.Goals as goal

pub h_cost-requires-clause-rule : goal.h_cost-requires-clause-rule
h_cost-requires-clause-rule c = (round_row_fits _ _ _ _ _ _ c.self.invariant).0

pub h_cost-requires-clause-across : goal.h_cost-requires-clause-across
h_cost-requires-clause-across c = (round_row_fits _ _ _ _ _ _ c.self.invariant).1

pub returns-clause-value : goal.returns-clause-value
returns-clause-value c =
    c.h_cost.ensures.value ∙ round_h_cost c.self.inside.pair.now c.self.inside.row c.args.col c.self.inside.rule
    c.self.inside.from c.self.inside.to c.around-from.result c.around-to.result c.self.inside.high.now
    c.args.self.now c.self.invariant (sym c.self.view_is) c.around-from.ensures.value c.around-to.ensures.value
