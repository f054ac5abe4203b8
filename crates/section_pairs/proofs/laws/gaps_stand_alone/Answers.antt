use Rattle.section_pairs.proofs.Moved.{members_same, pairs_moved}
use Rattle.section_pairs.proofs.laws.gaps_stand_alone.Goals as goal

pub returns-clause-components : goal.returns-clause-components
returns-clause-components c = members_same

pub returns-clause-pairs : goal.returns-clause-pairs
returns-clause-pairs c = pairs_moved
