use Rattle.std.proofs.Common.{rules}
use Rattle.command_replies.proofs.Wordless.{no_words}
use Rattle.command_replies.proofs.answers.refused.Goals as goal

pub returns-in-None-clause-memory : goal.returns-in-None-clause-memory
returns-in-None-clause-memory c = no_words c.args.fault.now (search rules)
