use Rattle.std.proofs.Common.{ℕ, ◌<◌, ◌-◌, length, map}
use Rattle.correspondence.specs.Contours.{points_of}
use Rattle.correspondence.specs.Apart.{ContoursTouch}
use Rattle.correspondence.proofs.apart.apart_until.Given as goal

abbrev pub invariant-loop-begin : goal.invariant-loop-begin
invariant-loop-begin l = (first second : ℕ) → first < l.begin → first < second → second < length l.contours
    → ContoursTouch (map points_of l.contours) first second → ⊥

abbrev pub decreases-loop-begin : goal.decreases-loop-begin
decreases-loop-begin l = length l.contours - l.begin
