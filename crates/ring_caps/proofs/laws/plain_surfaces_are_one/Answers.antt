use Rattle.ring_caps.proofs.RingObjects.{built_plain, built_plain_in, one_plain, one_plain_in}
use Rattle.ring_caps.proofs.laws.plain_surfaces_are_one.Goals as goal

pub returns-clause-one : goal.returns-clause-one
returns-clause-one c = one_plain

pub returns-clause-built : goal.returns-clause-built
returns-clause-built c = built_plain

pub returns-clause-all_one : goal.returns-clause-all_one
returns-clause-all_one c = one_plain_in

pub returns-clause-all_built : goal.returns-clause-all_built
returns-clause-all_built c = built_plain_in
