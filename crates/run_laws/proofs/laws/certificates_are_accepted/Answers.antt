use Rattle.run_laws.proofs.AcceptedLaws.{certificates_hold}
use Rattle.run_laws.proofs.laws.certificates_are_accepted.Goals as goal

pub returns : goal.returns
returns c = certificates_hold
