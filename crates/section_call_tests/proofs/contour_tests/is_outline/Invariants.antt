use Rattle.std.proofs.Common.{ℕ, ◌<◌, slice_index_or}
use Rattle.fku_types.specs.declared.points.Point.{Point}
use Rattle.fku_types.specs.Points.{IsInRange}
use Rattle.section_call_tests.proofs.contour_tests.is_outline.Given as goal

abbrev pub invariant-loop-p : goal.invariant-loop-p
invariant-loop-p l = (k : ℕ) (d : Point) → k < l.p-index → IsInRange (slice_index_or l.points k d)
