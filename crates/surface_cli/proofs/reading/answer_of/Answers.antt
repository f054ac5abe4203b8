use Rattle.std.proofs.Common.{List, ℕ, sym, subst, ◌∙◌}
use Rattle.fku_types.specs.declared.fault.Fault.{Fault}
use Rattle.command_replies.specs.Reply.{IsWritten, refused, text_bytes}
use Rattle.surface_cli.proofs.RunLemmas.{AnswersRead, read_given, too_long_given}
use Rattle.surface_cli.proofs.reading.answer_of.Goals as goal

pub returns-in_ok-refused-in-None-clause-answer : goal.returns-in_ok-refused-in-None-clause-answer
returns-in_ok-refused-in-None-clause-answer g c =
    let answer = c.in_ok-refused-in-None in
    let limited = sym c.input_limit.ensures ∙ c.in-Some.is in
    let written = subst (λ (fault : Fault).
    IsWritten (refused fault) answer.field-0.status (text_bytes answer.field-0.text) 0) c.too_long.ensures
    answer.ensures.written in
    too_long_given c.args.command c.in-Some.limit _ (g.P.PairSolver.solved_pairs c.args.solver.now)
    (g.S.Source.left c.args.input.now) (g.S.Source.left c.taken.new.input) answer.field-0.status
    (text_bytes answer.field-0.text)
    limited (c.in_ok-taken.ensures.too_long c.in-None.is) written

pub returns-in_ok-answer_to-in-Some-2-clause-answer : goal.returns-in_ok-answer_to-in-Some-2-clause-answer
returns-in_ok-answer_to-in-Some-2-clause-answer g c =
    let answer = c.in_ok-answer_to-in-Some-2 in
    let limited = sym c.input_limit.ensures ∙ c.in-Some.is in
    let before = g.P.PairSolver.solved_pairs c.args.solver.now in
    let after = g.P.PairSolver.solved_pairs c.answer_to-in-Some-2.new.solver in
    let read = subst (λ (bytes : List ℕ).
    AnswersRead c.args.command bytes before after answer.field-0.status (text_bytes answer.field-0.text))
    c.deref.ensures.value answer.ensures.written in
    read_given c.args.command c.in-Some.limit before after answer.field-0.status (text_bytes answer.field-0.text)
    c.in-Some-2.bytes.items (g.S.Source.left c.args.input.now)
    limited (rw c.in-Some-2.is at c.in_ok-taken.ensures.all) (rw c.in-Some-2.is at c.in_ok-taken.ensures.within) read
