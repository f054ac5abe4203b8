use Rattle.std.proofs.Common.{◌≡◌, ◌<◌, ℕ, false, map}
use Rattle.correspondence.specs.Contours.{points_of}
use Rattle.ring_caps.specs.Groups.{is_around}
use Rattle.ring_caps.proofs.groups.first_around.Given as goal

abbrev pub invariant-loop-other : goal.invariant-loop-other
invariant-loop-other l = (j : ℕ) → j < l.other → is_around (map points_of l.contours) l.place j ≡ false
