use Rattle.std.proofs.Common.{arith, ◌+◌, false, get_or, List}
use Rattle.plane_geom.specs.Rings.{RingView}
use Rattle.plane_geom.specs.RingViews.{ring_view, ring_views}
use Rattle.surface_core.specs.Marks.{kept}
use Rattle.surface_core.proofs.CapSteps.{done, ring_step, caps_step, folded_step}
use Rattle.surface_core.proofs.caps.add_caps.Goals as goal

pub loop-place-preserved : goal.loop-place-preserved
loop-place-preserved c =
    let rings = c.args.rings.now in
    let marks = c.args.marks.now in
    let k = c.loop-place.place in
    let old = c.loop-place.list in
    let new = c.add_cap.new.list in
    let one : List RingView = kept (get_or marks k false) (ring_view c.index-rings-place.result) in
    let more = ring_step rings marks k c.index-rings-place.result c.loop-place-test.true c.index-rings-place.is in
    record {
      triangles = caps_step c.args.face c.args.list.now.triangles.items old.triangles.items new.triangles.items
          (done (ring_views rings) marks k) one (done (ring_views rings) marks (k + 1)) c.loop-place.invariant.triangles
          c.in_ok-add_cap.ensures.triangles more;
      folded = folded_step c.args.list.now.folded old.folded new.folded (done (ring_views rings) marks k) one
          (done (ring_views rings) marks (k + 1)) c.loop-place.invariant.folded c.in_ok-add_cap.ensures.folded more;
      small = omega (arith, c.loop-place.invariant.small, c.in_ok-add_cap.ensures.small);
    }
