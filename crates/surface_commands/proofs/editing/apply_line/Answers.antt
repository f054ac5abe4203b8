use Rattle.surface_commands.proofs.EditLemmas.{session_answers}
use Rattle.text_io.specs.Text.{words}
use Rattle.surface_commands.proofs.editing.apply_line.Goals as goal

pub returns-clause-answer : goal.returns-clause-answer
returns-clause-answer g c =
    let apply = c.apply.ensures in
    session_answers (words c.args.line.now) c.in_ok-edit.edit c.args.session.now c.apply.new.self
    (g.P.PairSolver.solved_pairs c.args.solver.now) (g.P.PairSolver.solved_pairs c.apply.new.solver) c.apply.result
    c.in_ok-edit.ensures.edit apply.before apply.not_less apply.edited apply.solved apply.counts apply.counted
    apply.fault apply.same apply.fault_count
