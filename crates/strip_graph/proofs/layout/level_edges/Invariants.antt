use Rattle.std.proofs.Common.{◌≡◌, ℕ, ◌+◌, ◌<◌, length, slice_index_or}
use Rattle.plane_geom.specs.Rings.{around}
use Rattle.strip_graph.specs.declared.areas.Edge.{Edge}
use Rattle.strip_graph.specs.Edges.{IsEdge}
use Rattle.strip_graph.proofs.layout.level_edges.Given as goal

abbrev pub invariant-loop-k : goal.invariant-loop-k
invariant-loop-k l = record {
  count : length l.edges.items ≡ l.k;
  are : (i : ℕ) (d : Edge) → i < l.k
      → IsEdge (slice_index_or l.edges.items i d) (around l.high (i + 1)) (around l.high i) l.height;
}
