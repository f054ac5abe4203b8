use Rattle.std.proofs.Common.{◌≡◌, ◌+◌, ◌++◌, length, take, drop}
use Rattle.std.specs.Prelude.{sum_by}
use Rattle.triangle_meshes.specs.Meshes.{surface_of, triangle_lists}
use Rattle.surface_commands.specs.Crossings.{crossings_text, crossing_parts_text}
use Rattle.surface_commands.proofs.crossing.crossings_text.Given as goal

abbrev pub invariant-loop-place : goal.invariant-loop-place
invariant-loop-place l = record {
  lines : l.text.items ++ crossing_parts_text l.mesh.vertices.items (l.place + 1) l.first
      (drop l.place (triangle_lists l.mesh.parts.items)) ≡ crossings_text (surface_of l.mesh);
  first : l.first ≡ 1 + sum_by length (take l.place (triangle_lists l.mesh.parts.items));
}
