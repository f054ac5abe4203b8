use Rattle.std.proofs.Common.{subst, sym}
use Rattle.std.specs.Prelude.{IfOk}
use Rattle.command_replies.proofs.AnswerLemmas.{Written}
use Rattle.surface_cli.specs.declared.commands.Command.{Command}
use Rattle.surface_cli.specs.Commands.{rule_of}
use Rattle.surface_cli.proofs.commands.answer_to.Goals as goal

pub returns-in-Densify-clause-written : goal.returns-in-Densify-clause-written
returns-in-Densify-clause-written g c =
    let before = g.P.PairSolver.solved_pairs c.args.solver.now in
    let after = g.P.PairSolver.solved_pairs c.densified.new.solver in
    subst (λ (k : Command). IfOk c.densified.result (Written (rule_of k c.args.input.now) before after))
    (sym c.in-Densify.is) c.densified.ensures.written
