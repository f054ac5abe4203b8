use Rattle.run_laws.proofs.TakenLaws.{takes_densified}
use Rattle.run_laws.proofs.laws.densified_texts_are_taken.Goals as goal

pub returns : goal.returns
returns c = takes_densified
