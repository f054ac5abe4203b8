use Rattle.std.proofs.Common.{ℕ, suc, ◌<◌, ◌≤◌}
use Rattle.plane_geom.specs.Rings.{around}
use Rattle.plane_geom.specs.Segments.{SharePoint}
use Rattle.correspondence.proofs.apart.segment_touches.Given as goal

abbrev pub invariant-loop-place : goal.invariant-loop-place
invariant-loop-place l = (f : ℕ) → l.fn.block.begin ≤ f → f < l.place
    → SharePoint l.a l.b (around l.ring f) (around l.ring (suc f)) → ⊥
