use Rattle.std.proofs.Common.{◌≡◌, ◌++◌, drop, map}
use Rattle.section_pairs.specs.Pairs.{pair_parts}
use Rattle.surface_core.specs.Surfaces.{strip_triangles}
use Rattle.surface_core.proofs.assembly.add_strips.Given as goal

abbrev pub invariant-loop-place : goal.invariant-loop-place
invariant-loop-place l = l.triangles.items
    ++ strip_triangles l.gap (map pair_parts (drop l.place l.pairs)) (drop l.place l.solved) ≡ l.initial.triangles.items
    ++ strip_triangles l.gap (map pair_parts l.pairs) l.solved
