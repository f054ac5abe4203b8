use Rattle.run_laws.proofs.ClosedLaws.{plain_closed, ring_closed}
use Rattle.run_laws.proofs.laws.surfaces_are_counted_closed.Goals as goal

pub returns-clause-plain : goal.returns-clause-plain
returns-clause-plain c = plain_closed

pub returns-clause-rings : goal.returns-clause-rings
returns-clause-rings c = ring_closed
