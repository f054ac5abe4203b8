use Rattle.std.proofs.Common.{◌≡◌, ◌<◌, ◌≤◌, ℕ, false}
use Rattle.ring_polygons.specs.Caps.{sign, hinders}
use Rattle.ring_polygons.proofs.ears.hindrance_between.Given as goal

abbrev pub invariant-loop-other : goal.invariant-loop-other
invariant-loop-other l = (k : ℕ) → l.from ≤ k → k < l.other → hinders l.twins (sign l.left) l.points l.place k ≡ false
