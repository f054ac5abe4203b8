use Rattle.std.proofs.Common.{map}
use Rattle.correspondence.specs.Contours.{points_of}
use Rattle.correspondence.specs.Nesting.{IsDepthAmong}
use Rattle.correspondence.proofs.nesting.depth_past.Given as goal

abbrev pub invariant-loop-other : goal.invariant-loop-other
invariant-loop-other l = IsDepthAmong (map points_of l.contours) l.place l.other l.count
