use Rattle.std.proofs.Common.{length, map}
use Rattle.correspondence.specs.Graphs.{table_of, cell_links, AreBegun}
use Rattle.correspondence.specs.Gaps.{members_of}
use Rattle.correspondence.proofs.gaps.all_components.Given as goal

abbrev pub invariant-loop-root : goal.invariant-loop-root
invariant-loop-root l = AreBegun (cell_links (table_of l.rows)) (length l.rows) l.columns l.root
    (map members_of l.found.items)
