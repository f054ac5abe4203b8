use Rattle.std.proofs.Common.{◌≡◌, take, length, All}
use Rattle.std.specs.List.{range_with_len}
use Rattle.mesh_measures.specs.Crossings.{part_corners}
use Rattle.mesh_measures.specs.TriangleBoxes.{IsBoxed, boxed_corners, places}
use Rattle.mesh_measures.proofs.sweep.boxes.Given as goal

abbrev pub invariant-loop-triangle : goal.invariant-loop-triangle
invariant-loop-triangle l = record {
  count : length l.boxes.items ≡ l.triangle-index;
  corners : boxed_corners l.boxes.items ≡ part_corners l.vertices (take l.triangle-index l.triangles);
  places : places l.boxes.items ≡ range_with_len 0 l.triangle-index;
  boxed : All IsBoxed l.boxes.items;
}
