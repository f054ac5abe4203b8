use Rattle.round_sweeps.specs.Searches.{numbers_from, downs_from, rights_from}
use Rattle.std.proofs.Common.{length, ◌≤◌, ◌+◌}
use Rattle.round_sweeps.proofs.BackLaws.{IsBackUntil}
use Rattle.round_sweeps.proofs.searches.search_column.Given as goal

abbrev pub invariant-loop-row : goal.invariant-loop-row
invariant-loop-row g l = record {
  back : IsBackUntil l.height l.row l.limit (numbers_from (length l.known) l.round l.start l.known)
      (downs_from (length l.known) l.start (g.C.ColumnCosts.downs l.here))
      (rights_from (length l.known) l.start (g.N.ColumnCosts.rights l.next)) l.fn.sums l.sums l.ways l.below
      l.left.first l.left.last;
  few : l.row ≤ l.window.last + 1;
}
