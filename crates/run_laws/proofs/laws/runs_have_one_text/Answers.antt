use Rattle.run_laws.proofs.RunLaws.{one_out}
use Rattle.run_laws.proofs.laws.runs_have_one_text.Goals as goal

pub returns : goal.returns
returns c = one_out
