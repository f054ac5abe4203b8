use Rattle.run_laws.proofs.RunLaws.{one_command}
use Rattle.run_laws.proofs.laws.workers_change_no_text.Goals as goal

pub returns : goal.returns
returns c = one_command
