use Rattle.section_pairs.proofs.PairLaws.{one_pairs}
use Rattle.section_pairs.proofs.FoundLaws.{one_found, paired_or_found}
use Rattle.section_pairs.proofs.laws.pairs_are_one.Goals as goal

pub returns-clause-one : goal.returns-clause-one
returns-clause-one c = one_pairs

pub returns-clause-none : goal.returns-clause-none
returns-clause-none c = paired_or_found

pub returns-clause-one_fault : goal.returns-clause-one_fault
returns-clause-one_fault c = one_found
