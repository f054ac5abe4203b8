use Rattle.std.proofs.Common.{length, subst, sym}
use Rattle.std.proofs.lemmas.Result.{IfOk-weaker}
use Rattle.fku_types.specs.declared.rules.PairRule.{PairRule}
use Rattle.correspondence.specs.Outlines.{held_layer}
use Rattle.correspondence.specs.Correspondences.{Agree}
use Rattle.correspondence.specs.Graphs.{table_of, AreRows}
use Rattle.correspondence.proofs.correspondence_table.agreement.Goals as goal

pub returns-in-Overlap : goal.returns-in-Overlap
returns-in-Overlap c =
    let low = c.args.low.now in
    let high = c.args.high.now in
    IfOk-weaker c.overlap_rows.result _ _
    (λ v h links named.
    subst (λ (r : PairRule). AreRows (table_of v.items) (length low.contours.items) (length high.contours.items)
    (Agree r links (held_layer low) (held_layer high))) (sym c.in-Overlap.is) h)
    c.overlap_rows.ensures
