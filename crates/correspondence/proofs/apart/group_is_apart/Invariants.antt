use Rattle.std.proofs.Common.{ℕ, ◌<◌, ◌≤◌, map}
use Rattle.correspondence.specs.Contours.{points_of}
use Rattle.correspondence.specs.Apart.{ContoursTouch}
use Rattle.correspondence.proofs.apart.group_is_apart.Given as goal

abbrev pub invariant-loop-second : goal.invariant-loop-second
invariant-loop-second l = (first second : ℕ) → l.group.begin ≤ first → first < l.group.end → first < second
    → second < l.second → ContoursTouch (map points_of l.contours) first second → ⊥
