use Rattle.std.proofs.Common.{◌≡◌, ◌+◌, ◌*◌, ◌++◌, length, drop, map}
use Rattle.std.specs.List.{concat}
use Rattle.byu_text.specs.Byu.{polygon_line}
use Rattle.byu_text.specs.Pieces.{AreTriangles}
use Rattle.byu_text.specs.Stages.{counts_of, polygons_at}
use Rattle.byu_text.proofs.polygons.read_triangles.Given as goal

abbrev pub invariant-loop-i : goal.invariant-loop-i
invariant-loop-i l = record {
  are : AreTriangles (counts_of l.head) l.triangles.items;
  count : length l.triangles.items ≡ l.i;
  lines : drop (polygons_at (counts_of l.head)) l.text ≡ concat (map polygon_line l.triangles.items)
      ++ drop (polygons_at (counts_of l.head) + 25 * l.i) l.text;
}
