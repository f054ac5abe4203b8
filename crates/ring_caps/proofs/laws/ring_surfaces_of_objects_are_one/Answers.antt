use Rattle.ring_caps.proofs.RingObjects.{built_or_found_in, one_fault_in, one_ring_surface_in}
use Rattle.ring_caps.proofs.laws.ring_surfaces_of_objects_are_one.Goals as goal

pub returns-clause-one : goal.returns-clause-one
returns-clause-one c = one_ring_surface_in

pub returns-clause-none : goal.returns-clause-none
returns-clause-none c = built_or_found_in

pub returns-clause-one_fault : goal.returns-clause-one_fault
returns-clause-one_fault c = one_fault_in
