use Rattle.std.proofs.Common.{◌≡◌, true, map, slice_index_or}
use Rattle.correspondence.specs.Contours.{points_of, contour_at}
use Rattle.correspondence.specs.Overlaps.{Overlap}
use Rattle.correspondence.specs.Correspondences.{same_parity}
use Rattle.correspondence.specs.Graphs.{IsRow}
use Rattle.correspondence.proofs.correspondence_table.overlap_row.Given as goal

abbrev pub invariant-loop-j : goal.invariant-loop-j
invariant-loop-j l = IsRow l.row.items l.j
    (λ j. (same_parity l.depth (slice_index_or l.depths j 0) ≡ true)
    × Overlap (points_of l.low) (contour_at (map points_of l.high) j))
