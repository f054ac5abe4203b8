use Rattle.surface_commands.proofs.EditLemmas.{answer_written}
use Rattle.text_io.specs.Text.{words}
use Rattle.surface_commands.proofs.editing.answer_line.Goals as goal

pub returns-clause-answered : goal.returns-clause-answered
returns-clause-answered g c =
    answer_written c.args.session.now.sections c.apply_line-answer.new.session.sections (words c.args.line.now)
    c.args.number c.args.out.now.items c.put_answer.new.out.items
    (g.P.PairSolver.solved_pairs c.args.solver.now) (g.P.PairSolver.solved_pairs c.apply_line-answer.new.solver)
    c.apply_line-answer.result c.put_answer.result
    c.apply_line-answer.ensures.answer c.put_answer.ensures.text c.put_answer.ensures.told
