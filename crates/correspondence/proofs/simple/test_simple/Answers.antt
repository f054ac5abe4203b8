use Rattle.std.proofs.Common.{subst}
use Rattle.correspondence.specs.Simple.{IsSimple}
use Rattle.correspondence.proofs.simple.test_simple.Goals as goal

pub returns-in-None : goal.returns-in-None
returns-in-None c = subst IsSimple c.deref.ensures.value c.in-None.ensures
