use Rattle.std.proofs.Common.{◌≡◌, ◌+◌, ◌*◌, ◌++◌, ◌≤◌}
use Rattle.fku_types.specs.declared.limits.TheConstants.{MAX_CONTOUR_VERTICES}
use Rattle.plane_geom.specs.RingViews.{ring_views}
use Rattle.surface_core.specs.Surfaces.{caps_on, folded_in}
use Rattle.surface_core.proofs.CapSteps.{done}
use Rattle.surface_core.proofs.caps.add_caps.Given as goal

abbrev pub invariant-loop-place : goal.invariant-loop-place
invariant-loop-place l = record {
  triangles : l.list.triangles.items ≡ l.initial.list.triangles.items
      ++ caps_on l.face (done (ring_views l.rings) l.marks l.place);
  folded : l.list.folded ≡ l.initial.list.folded + folded_in (done (ring_views l.rings) l.marks l.place);
  small : l.list.folded ≤ l.initial.list.folded + MAX_CONTOUR_VERTICES * l.place;
}
