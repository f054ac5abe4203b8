use Rattle.section_slices.proofs.SliceLaws.{one_slice, slice_or_fault, one_slice_fault}
use Rattle.section_slices.proofs.slice_laws.slices_are_one.Goals as goal

pub returns-clause-one : goal.returns-clause-one
returns-clause-one c = one_slice

pub returns-clause-none : goal.returns-clause-none
returns-clause-none c = slice_or_fault

pub returns-clause-one_fault : goal.returns-clause-one_fault
returns-clause-one_fault c = one_slice_fault
