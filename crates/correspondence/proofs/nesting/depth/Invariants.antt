use Rattle.std.proofs.Common.{◌*◌, map, length}
use Rattle.std.specs.Prelude.{min}
use Rattle.correspondence.specs.declared.groups.TheConstants.{GROUP}
use Rattle.correspondence.specs.Contours.{points_of}
use Rattle.correspondence.specs.Nesting.{IsDepthAmong}
use Rattle.correspondence.proofs.nesting.depth.Given as goal

abbrev pub invariant-loop-group : goal.invariant-loop-group
invariant-loop-group l = IsDepthAmong (map points_of l.contours) l.place
    (min (length l.contours) (l.group-index * GROUP)) l.count
