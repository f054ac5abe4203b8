use Rattle.std.proofs.Common.{◌≡◌, ℕ, ◌<◌, slice_index_or}
use Rattle.fku_types.specs.declared.points.Point.{Point}
use Rattle.round_sweeps.proofs.lines.is_level.Given as goal

abbrev pub invariant-loop-point : goal.invariant-loop-point
invariant-loop-point l = (k : ℕ) (d : Point) → k < l.point-index → (slice_index_or l.ring k d).z ≡ l.height
