use Rattle.std.proofs.Common.{map, take, bytes_eq}
use Rattle.indexmap.specs.IndexMap.{get}
use Rattle.section_core.specs.Views.{link_parts}
use Rattle.correspondence.specs.Named.{names_above, AreNamedAbove}
use Rattle.correspondence.proofs.link_table.all_above.Given as goal

abbrev pub invariant-loop-link : goal.invariant-loop-link
invariant-loop-link l = AreNamedAbove (λ q. names_above (get bytes_eq l.above q))
    (map link_parts (take l.link-index l.links))
