use Rattle.std.proofs.Common.{◌≡◌, ◌<◌, ℕ, false}
use Rattle.ring_polygons.specs.Caps.{sign, is_ear}
use Rattle.ring_polygons.specs.States.{AreTrue}
use Rattle.ring_polygons.proofs.ears.ear_place.Given as goal

abbrev pub invariant-loop-place : goal.invariant-loop-place
invariant-loop-place l = record {
  none : (k : ℕ) → k < l.place → is_ear l.twins (sign l.left) l.points k ≡ false;
  states : AreTrue l.twins (sign l.left) l.points l.states;
}
