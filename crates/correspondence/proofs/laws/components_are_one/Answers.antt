use Rattle.correspondence.proofs.Determined.{gap_members_same}
use Rattle.correspondence.proofs.laws.components_are_one.Goals as goal

pub returns : goal.returns
returns c = gap_members_same
