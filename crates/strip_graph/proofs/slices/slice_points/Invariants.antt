use Rattle.std.proofs.Common.{All, ◌≡◌, ◌++◌, map}
use Rattle.strip_graph.specs.Strips.{rows, cols}
use Rattle.strip_graph.specs.Slices.{IsOver, span_cut, slice_loop}
use Rattle.strip_graph.specs.Spans.{IsOf}
use Rattle.strip_graph.proofs.slices.slice_points.Given as goal

abbrev pub invariant-loop-span : goal.invariant-loop-span
invariant-loop-span l = record {
  can : (goal.iterator-loop-span).can_next l.span-iterator;
  finite : (goal.iterator-loop-span).is_finite l.span-iterator;
  points : l.points.items ++ map (λ s. span_cut l.pair l.den l.part s.row s.col) l.span-iterator
      ≡ slice_loop l.pair l.den l.part l.tiling.row 0 l.tiling.word.items;
  range : All (IsOver l.den) l.points.items;
  spans : All (IsOf (rows l.pair) (cols l.pair)) l.span-iterator;
}
