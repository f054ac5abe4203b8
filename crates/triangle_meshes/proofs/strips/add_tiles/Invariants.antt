use Rattle.std.proofs.Common.{◌≡◌, ◌++◌, map, All}
use Rattle.strip_graph.specs.Strips.{rows, cols}
use Rattle.strip_graph.specs.Spans.{IsOf}
use Rattle.triangle_meshes.specs.Tiles.{tile, tiles}
use Rattle.triangle_meshes.proofs.strips.add_tiles.Given as goal

abbrev pub invariant-loop-span : goal.invariant-loop-span
invariant-loop-span l = record {
  can : (goal.iterator-loop-span).can_next l.span-iterator;
  finite : (goal.iterator-loop-span).is_finite l.span-iterator;
  tiles : l.triangles.items ++ map (λ s. tile l.pair.low_ids l.pair.high_ids s.row s.col s.step) l.span-iterator
      ≡ l.initial.triangles.items ++ tiles l.pair.low_ids l.pair.high_ids l.tiling.row 0 l.tiling.word.items;
  spans : All (IsOf (rows l.pair) (cols l.pair)) l.span-iterator;
}
