use Rattle.section_slices.proofs.OneDensified.{one_densified}
use Rattle.section_slices.proofs.Exact.{one_middle_fault}
use Rattle.section_slices.proofs.middle_laws.densified_is_one.Goals as goal

pub returns-clause-one : goal.returns-clause-one
returns-clause-one c = one_densified

pub returns-clause-one_fault : goal.returns-clause-one_fault
returns-clause-one_fault c = one_middle_fault
