use Rattle.std.proofs.Common.{◌≡◌, ◌≤◌, ◌+◌, ◌++◌, length, All, vec_len}
use Rattle.fku_types.specs.declared.limits.TheConstants.{MAX_COMPOSITE_VERTICES}
use Rattle.fku_types.specs.Points.{IsInRange}
use Rattle.ring_polygons.specs.Caps.{cap_by, folded_by, sign}
use Rattle.ring_polygons.specs.States.{AreTrue}
use Rattle.ring_polygons.proofs.CapSteps.{to_cut, to_fold}
use Rattle.ring_polygons.proofs.capping.cap_by.Given as goal

abbrev pub invariant-cutting : goal.invariant-cutting
invariant-cutting l = record {
  triangles : l.triangles.items ++ to_cut l.twins l.left l.points.items l.ids.items
      ≡ cap_by l.twins l.ring.points.items l.ring.ids.items;
  folded : l.folded + to_fold l.twins l.left l.points.items ≡ folded_by l.twins l.ring.points.items;
  same : length l.points.items ≡ length l.ids.items;
  enough : 3 ≤ length l.points.items;
  bound : l.folded + length l.points.items ≤ MAX_COMPOSITE_VERTICES;
  range : All IsInRange l.points.items;
  states : AreTrue l.twins (sign l.left) l.points.items l.states.items;
}

abbrev pub decreases-cutting : goal.decreases-cutting
decreases-cutting l = vec_len l.points
