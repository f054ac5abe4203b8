use Rattle.std.proofs.Common.{◌≡◌, ◌<◌, ℕ, All, map, length, get_or, flat_map}
use Rattle.std.specs.List.{range_with_len}
use Rattle.ring_polygons.specs.declared.capping.CapList.{CapList}
use Rattle.section_pairs.specs.Pairs.{pair_parts, IsShort}
use Rattle.surface_core.specs.Caps.{AreCapsOf}
use Rattle.ring_caps.specs.RingSurfaces.{section_sizes, by_group}
use Rattle.ring_caps.proofs.caps.all_caps.Given as goal

abbrev pub invariant-loop-place : goal.invariant-loop-place
invariant-loop-place l = record {
  count : length l.caps.items ≡ l.place;
  each : (s : ℕ) (d : CapList) → s < length l.caps.items
      → AreCapsOf by_group l.sections (map pair_parts l.pairs) s (get_or l.caps.items s d);
  short : All IsShort (flat_map (section_sizes l.sections (map pair_parts l.pairs)) (range_with_len 0 l.place));
}
