use Rattle.std.proofs.Common.{map}
use Rattle.correspondence.specs.Contours.{points_of}
use Rattle.correspondence.specs.Pairs.{NonePartner}
use Rattle.correspondence.specs.Apart.{ContoursTouch}
use Rattle.correspondence.proofs.apart.first_touched.Given as goal

abbrev pub invariant-loop-second : goal.invariant-loop-second
invariant-loop-second l = NonePartner (ContoursTouch (map points_of l.contours)) l.second l.first
