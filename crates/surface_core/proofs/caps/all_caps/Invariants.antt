use Rattle.std.proofs.Common.{◌≡◌, ◌<◌, ℕ, length, map, take, sum_by, get_or}
use Rattle.ring_polygons.specs.declared.capping.CapList.{CapList}
use Rattle.section_pairs.specs.Pairs.{pair_parts}
use Rattle.section_pairs.proofs.SectionRings.{section_vertices}
use Rattle.surface_core.specs.Surfaces.{by_contour}
use Rattle.surface_core.specs.Caps.{AreCapsOf}
use Rattle.surface_core.proofs.caps.all_caps.Given as goal

abbrev pub invariant-loop-place : goal.invariant-loop-place
invariant-loop-place l = record {
  first : l.first_id ≡ sum_by section_vertices (take l.place l.all);
  count : length l.caps.items ≡ l.place;
  each : (s : ℕ) (d : CapList) → s < length l.caps.items
      → AreCapsOf by_contour l.sections (map pair_parts l.pairs) s (get_or l.caps.items s d);
}
