use Rattle.std.proofs.Common.{◌≡◌, length}
use Rattle.correspondence.specs.Contours.{point_lists}
use Rattle.correspondence.specs.Overlaps.{EncloseEach}
use Rattle.correspondence.proofs.correspondence_table.all_bounds.Given as goal

abbrev pub invariant-loop-contour : goal.invariant-loop-contour
invariant-loop-contour l = record {
  one_each : length l.bounds.items ≡ l.contour-index;
  enclosed : EncloseEach l.bounds.items (point_lists l.section) l.contour-index;
}
