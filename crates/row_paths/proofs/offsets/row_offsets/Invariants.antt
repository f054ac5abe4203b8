use Rattle.std.proofs.Common.{◌≡◌, ◌+◌}
use Rattle.strip_graph.specs.Strips.{arcs, rows, cols}
use Rattle.strip_graph.specs.Distances.{offset}
use Rattle.row_paths.specs.Solutions.{AreOffsets}
use Rattle.row_paths.proofs.offsets.row_offsets.Given as goal

abbrev pub invariant-loop-row : goal.invariant-loop-row
invariant-loop-row l = record {
  offsets : AreOffsets (arcs l.layout) (rows l.layout) (cols l.layout) (l.row + 1) l.offsets.items;
  offset : l.offset ≡ offset (arcs l.layout) (rows l.layout) (cols l.layout) l.row;
}
