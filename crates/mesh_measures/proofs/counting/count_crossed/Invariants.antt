use Rattle.std.proofs.Common.{◌≡◌, ◌+◌, ℕ, take, count_by, slice_index}
use Rattle.mesh_measures.specs.TriangleBoxes.{crosses, crosses_at}
use Rattle.mesh_measures.proofs.counting.count_crossed.Given as goal

abbrev pub invariant-loop-other : goal.invariant-loop-other
invariant-loop-other l = record {
  own : l.own ≡ count_by (crosses l.first) (take l.other-index l.others);
  counts : (i : ℕ) → slice_index l.counts i ≡ slice_index l.fn.counts i
      + count_by (crosses_at l.first i) (take l.other-index l.others);
}
