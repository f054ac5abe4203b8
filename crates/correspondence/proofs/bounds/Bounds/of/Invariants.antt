use Rattle.std.proofs.Common.{ℕ, ◌<◌, slice_index_or}
use Rattle.fku_types.specs.declared.points.Point.{Point}
use Rattle.correspondence.specs.Bounding.{LiesWithin}
use Rattle.correspondence.proofs.bounds.Bounds.of.Given as goal

abbrev pub invariant-loop-p : goal.invariant-loop-p
invariant-loop-p l = (k : ℕ) (d : Point) → k < l.p-index → LiesWithin l.bounds (slice_index_or l.points k d)
