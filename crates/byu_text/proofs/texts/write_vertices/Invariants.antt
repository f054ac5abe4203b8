use Rattle.std.proofs.Common.{◌≡◌, ◌++◌, All}
use Rattle.fku_types.specs.Points.{IsInRange}
use Rattle.byu_text.specs.Byu.{vertex_lines}
use Rattle.byu_text.proofs.texts.write_vertices.Given as goal

abbrev pub invariant-loop-points : goal.invariant-loop-points
invariant-loop-points l = record {
  lines : l.text.items ++ vertex_lines l.points-iterator.rest.now ≡ l.initial.text.items ++ vertex_lines l.vertices;
  two : l.points-iterator.size ≡ 2;
  range : All IsInRange l.points-iterator.rest.now;
}
