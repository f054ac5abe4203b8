use Rattle.correspondence.proofs.LinkLaws.{one_bad, good_or_bad}
use Rattle.correspondence.proofs.laws.first_bad_link_is_one.Goals as goal

pub returns-clause-one : goal.returns-clause-one
returns-clause-one c = one_bad

pub returns-clause-none : goal.returns-clause-none
returns-clause-none c = good_or_bad
