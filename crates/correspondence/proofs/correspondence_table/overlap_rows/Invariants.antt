use Rattle.std.proofs.Common.{length}
use Rattle.correspondence.specs.Contours.{point_lists}
use Rattle.correspondence.specs.Correspondences.{Alike}
use Rattle.correspondence.specs.Graphs.{table_of, AreRows}
use Rattle.correspondence.proofs.correspondence_table.overlap_rows.Given as goal

abbrev pub invariant-loop-i : goal.invariant-loop-i
invariant-loop-i l = AreRows (table_of l.rows.items) l.i (length l.high.contours.items)
    (Alike (point_lists l.low) (point_lists l.high))
