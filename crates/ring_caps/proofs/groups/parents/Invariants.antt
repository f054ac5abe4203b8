use Rattle.std.proofs.Common.{◌≡◌, map}
use Rattle.std.specs.List.{range_with_len}
use Rattle.correspondence.specs.Contours.{points_of}
use Rattle.ring_caps.specs.Groups.{parent}
use Rattle.ring_caps.proofs.groups.parents.Given as goal

abbrev pub invariant-loop-place : goal.invariant-loop-place
invariant-loop-place l = l.parents.items ≡ map (parent (map points_of l.contours)) (range_with_len 0 l.place)
