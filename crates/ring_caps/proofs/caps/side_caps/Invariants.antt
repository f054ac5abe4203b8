use Rattle.std.proofs.Common.{◌≡◌, ◌≤◌, ◌*◌, take, All}
use Rattle.fku_types.specs.declared.limits.TheConstants.{MAX_COMPOSITE_VERTICES}
use Rattle.plane_geom.specs.RingViews.{ring_views}
use Rattle.section_pairs.specs.Pairs.{IsShort}
use Rattle.ring_caps.specs.RingSurfaces.{ring_tops, groups_folded, side_sizes}
use Rattle.ring_caps.specs.Held.{lists}
use Rattle.ring_caps.proofs.caps.side_caps.Given as goal

abbrev pub invariant-loop-group : goal.invariant-loop-group
invariant-loop-group l = record {
  triangles : l.list.triangles.items ≡ ring_tops (ring_views l.rings) (lists (take l.group-index l.groups));
  folded : l.list.folded ≡ groups_folded (ring_views l.rings) (lists (take l.group-index l.groups));
  small : l.list.folded ≤ MAX_COMPOSITE_VERTICES * l.group-index;
  short : All IsShort (side_sizes l.section (ring_views l.rings) (lists (take l.group-index l.groups)));
}
