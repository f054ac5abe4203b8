use Rattle.std.proofs.Common.{subst, sym}
use Rattle.command_replies.specs.Reply.{Replies}
use Rattle.surface_cli.specs.declared.commands.Command.{Command}
use Rattle.surface_cli.specs.Commands.{rule_of}
use Rattle.surface_cli.proofs.commands.text_of.Goals as goal

pub returns-in-Check-clause-reply : goal.returns-in-Check-clause-reply
returns-in-Check-clause-reply g c =
    let count = g.P.PairSolver.solved_pairs c.args.solver.now in
    subst (λ (k : Command). Replies (rule_of k c.args.input.now) count count c.verdict.result) (sym c.in-Check.is)
    (c.verdict.ensures.reply count)

pub returns-in-Landmarks-clause-reply : goal.returns-in-Landmarks-clause-reply
returns-in-Landmarks-clause-reply g c =
    let count = g.P.PairSolver.solved_pairs c.args.solver.now in
    subst (λ (k : Command). Replies (rule_of k c.args.input.now) count count c.landmarks.result) (sym c.in-Landmarks.is)
    (c.landmarks.ensures.reply count)
