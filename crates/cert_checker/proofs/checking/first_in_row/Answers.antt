use Rattle.std.proofs.Common.{rules, arith}
use Rattle.strip_graph.specs.declared.tilings.Step.TheVariants.{V, H}
use Rattle.strip_graph.specs.Strips.{arcs}
use Rattle.cert_checker.specs.Steps.{RowStepHolds}
use Rattle.cert_checker.proofs.Firsts.{one_column, first_h}
use Rattle.cert_checker.proofs.checking.first_in_row.Goals as goal
use Rattle.cert_checker.proofs.checking.first_in_row.Goals.{else-c-below-via-then-c-below+else-not-rises_at_most, else-c-below-via-else-c-below}
use Rattle.cert_checker.proofs.checking.first_in_row.Goals.{else-c-here-via-then-c-here+else-not-rises_at_most-2, else-c-here-via-else-c-here}

pub returns-then-not-rises_at_most-2 : goal.returns-then-not-rises_at_most-2
returns-then-not-rises_at_most-2 c =
    let Good = RowStepHolds (arcs c.args.steps.now.strip) c.args.steps.now.row c.args.here.now c.args.below.now in
    let v : Good c.loop-c.c V =
    elim c.else-c-below.branch [
      | else-c-below-via-then-c-below+else-not-rises_at_most w ↦ search rules
      | else-c-below-via-else-c-below w ↦ λ lt. absurd (omega (arith, lt, w.if-c-below))
    ] in
    let wrong : Good c.loop-c.c H → ⊥ = search rules in
    ((λ i. c.args.row), first_h Good c.loop-c.c c.loop-c.invariant v wrong)

pub loop-c-preserved : goal.loop-c-preserved
loop-c-preserved c =
    let Good = RowStepHolds (arcs c.args.steps.now.strip) c.args.steps.now.row c.args.here.now c.args.below.now in
    let v : Good c.loop-c.c V =
    elim c.else-c-below.branch [
      | else-c-below-via-then-c-below+else-not-rises_at_most w ↦ search rules
      | else-c-below-via-else-c-below w ↦ λ lt. absurd (omega (arith, lt, w.if-c-below))
    ] in
    let h : Good c.loop-c.c H =
    elim c.else-c-here.branch [
      | else-c-here-via-then-c-here+else-not-rises_at_most-2 w ↦ search rules
      | else-c-here-via-else-c-here w ↦ λ lt. absurd (omega (arith, lt, w.if-c-here))
    ] in
    one_column Good c.loop-c.c c.loop-c.invariant v h
