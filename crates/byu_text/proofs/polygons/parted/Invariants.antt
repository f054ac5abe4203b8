use Rattle.std.proofs.Common.{◌≡◌, ◌≤◌, ◌++◌, length, drop}
use Rattle.std.specs.Prelude.{sum}
use Rattle.triangle_meshes.specs.Meshes.{triangle_lists}
use Rattle.byu_text.specs.Stages.{parts_in}
use Rattle.byu_text.proofs.polygons.parted.Given as goal

abbrev pub invariant-loop-size : goal.invariant-loop-size
invariant-loop-size l = record {
  parts : triangle_lists l.parts.items ++ parts_in (drop l.size-index l.sizes) l.rest ≡ parts_in l.sizes l.triangles;
  enough : sum (drop l.size-index l.sizes) ≤ length l.rest;
}
