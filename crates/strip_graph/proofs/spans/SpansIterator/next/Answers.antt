use Rattle.std.proofs.Common.{length, sym, ap, ◌∙◌, arith}
use Rattle.strip_graph.proofs.SpanLaws.{first_v, first_h}
use Rattle.strip_graph.proofs.spans.SpansIterator.next.Goals as goal

pub returns-in-V-clause-steps : goal.returns-in-V-clause-steps
returns-in-V-clause-steps c =
    let s = c.self.inside in
    let next = c.next_place-self-inside in
    sym c.self.view_is ∙ first_v s.rows s.cols s.row s.col next.result s.word.now c.in_ok-step.word.now
    c.in_ok-step.step.now c.in_ok-step.ensures.cases.0 c.in-V.is c.self.invariant.0 c.self.invariant.1
    next.ensures.range next.ensures.value

pub returns-in-V-clause-goes : goal.returns-in-V-clause-goes
returns-in-V-clause-goes c = record
    { on = λ _. (tt, tt, omega (arith, ap length (returns-in-V-clause-steps c))); keeps = tt; rests = λ _. tt }

pub returns-in-H-clause-steps : goal.returns-in-H-clause-steps
returns-in-H-clause-steps c =
    let s = c.self.inside in
    let next = c.next_place-self-inside-in-H in
    sym c.self.view_is ∙ first_h s.rows s.cols s.row s.col next.result s.word.now c.in_ok-step.word.now
    c.in_ok-step.step.now c.in_ok-step.ensures.cases.0 c.in-H.is c.self.invariant.0 c.self.invariant.1
    next.ensures.range next.ensures.value

pub returns-in-H-clause-goes : goal.returns-in-H-clause-goes
returns-in-H-clause-goes c = record
    { on = λ _. (tt, tt, omega (arith, ap length (returns-in-H-clause-steps c))); keeps = tt; rests = λ _. tt }
