use Rattle.ring_caps.proofs.RingLaws.{built_or_found, one_fault, one_surface}
use Rattle.ring_caps.proofs.laws.ring_surfaces_are_one.Goals as goal

pub returns-clause-one : goal.returns-clause-one
returns-clause-one c = one_surface

pub returns-clause-none : goal.returns-clause-none
returns-clause-none c = built_or_found

pub returns-clause-one_fault : goal.returns-clause-one_fault
returns-clause-one_fault c = one_fault
