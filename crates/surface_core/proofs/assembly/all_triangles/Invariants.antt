use Rattle.std.proofs.Common.{◌≡◌, map, sum_by, flat_map}
use Rattle.std.specs.List.{range_with_len}
use Rattle.section_pairs.specs.Pairs.{pair_parts}
use Rattle.surface_core.specs.Surfaces.{capped_section}
use Rattle.surface_core.proofs.assembly.all_triangles.Given as goal

abbrev pub invariant-loop-place : goal.invariant-loop-place
invariant-loop-place g l = record {
  triangles : l.list.triangles.items
      ≡ flat_map (capped_section g.C.CapRule.capping l.sections (map pair_parts l.pairs) l.solved)
      (range_with_len 0 l.place);
  folded : l.list.folded ≡ sum_by (g.C.CapRule.capping.folded l.sections (map pair_parts l.pairs))
      (range_with_len 0 l.place);
}
