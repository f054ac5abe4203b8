use Rattle.std.proofs.Common.{ℕ, ◌<◌, ◌≤ℤ◌, slice_index_or}
use Rattle.fku_types.specs.declared.points.Point.{Point}
use Rattle.correspondence.proofs.nesting.none_above.Given as goal

abbrev pub invariant-loop-q : goal.invariant-loop-q
invariant-loop-q l = (k : ℕ) (d : Point) → k < l.q-index → (slice_index_or l.points k d).y ≤ℤ l.p.y
