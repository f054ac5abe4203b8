use Rattle.std.proofs.Common.{subst, bytes_eq}
use Rattle.indexmap.specs.IndexMap.{get}
use Rattle.correspondence.specs.Named.{names_above, AreNamedAbove}
use Rattle.correspondence.proofs.link_table.LinkTable.of.Goals as goal

pub returns : goal.returns
returns c = subst (AreNamedAbove (λ q. names_above (get bytes_eq c.in_ok-above.above q))) c.links.ensures.parts
    c.in_ok-above.ensures
