use Rattle.surface_core.proofs.ObjectLaws.{one_pair_lists, objects_paired_or_found, one_found_in}
use Rattle.surface_core.proofs.laws.pairs_of_objects_are_one.Goals as goal

pub returns-clause-one : goal.returns-clause-one
returns-clause-one c = one_pair_lists

pub returns-clause-none : goal.returns-clause-none
returns-clause-none c = objects_paired_or_found

pub returns-clause-one_fault : goal.returns-clause-one_fault
returns-clause-one_fault c = one_found_in
