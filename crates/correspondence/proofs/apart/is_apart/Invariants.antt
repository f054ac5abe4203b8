use Rattle.std.proofs.Common.{ℕ, ◌<◌, ◌≤◌, map}
use Rattle.correspondence.specs.Contours.{points_of}
use Rattle.correspondence.specs.Apart.{ContoursTouch}
use Rattle.correspondence.proofs.apart.is_apart.Given as goal

abbrev pub invariant-loop-first : goal.invariant-loop-first
invariant-loop-first l = (first : ℕ) → l.group.begin ≤ first → first < l.first
    → ContoursTouch (map points_of l.contours) first l.second → ⊥
