use Rattle.std.proofs.Common.{◌≡◌, ◌+◌, ℕ, drop, slice_index}
use Rattle.mesh_measures.specs.Crossings.{crossing_pairs}
use Rattle.mesh_measures.specs.TriangleBoxes.{boxed_corners, tally}
use Rattle.mesh_measures.proofs.sweep.count_all.Given as goal

abbrev pub invariant-loop-place : goal.invariant-loop-place
invariant-loop-place l = record {
  pairs : l.pairs + crossing_pairs (boxed_corners (drop l.place l.sorted)) ≡ crossing_pairs (boxed_corners l.sorted);
  counts : (i : ℕ) → slice_index l.counts i + tally (drop l.place l.sorted) i ≡ slice_index l.fn.counts i
      + tally l.sorted i;
}
