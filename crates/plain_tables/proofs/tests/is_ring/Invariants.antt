use Rattle.std.proofs.Common.{ℕ, ◌<◌, slice_index_or}
use Rattle.fku_types.specs.declared.points.Point.{Point}
use Rattle.fku_types.specs.Points.{IsInRange}
use Rattle.plain_tables.proofs.tests.is_ring.Given as goal

abbrev pub invariant-loop-p : goal.invariant-loop-p
invariant-loop-p l = (k : ℕ) (d : Point) → k < l.p-index → IsInRange (slice_index_or l.points k d)
