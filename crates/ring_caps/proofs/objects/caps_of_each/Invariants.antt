use Rattle.std.proofs.Common.{take, All}
use Rattle.section_pairs.specs.Pairs.{IsShort}
use Rattle.surface_core.specs.Objects.{sections_in, pair_lists}
use Rattle.ring_caps.specs.RingSurfaces.{all_group_sizes}
use Rattle.ring_caps.specs.Held.{AreGroupCapLists}
use Rattle.ring_caps.proofs.objects.caps_of_each.Given as goal

abbrev pub invariant-loop-place : goal.invariant-loop-place
invariant-loop-place l = record {
  caps : AreGroupCapLists (sections_in (take l.place l.items)) (pair_lists (take l.place l.lists)) l.each.items;
  short : All IsShort (all_group_sizes (sections_in (take l.place l.items)) (pair_lists (take l.place l.lists)));
}
