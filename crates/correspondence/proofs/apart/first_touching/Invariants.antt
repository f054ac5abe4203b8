use Rattle.std.proofs.Common.{length, map}
use Rattle.correspondence.specs.Contours.{points_of}
use Rattle.correspondence.specs.Apart.{ContoursTouch}
use Rattle.correspondence.proofs.Firsts.{NoneBelow}
use Rattle.correspondence.proofs.apart.first_touching.Given as goal

abbrev pub invariant-loop-first : goal.invariant-loop-first
invariant-loop-first l = NoneBelow (ContoursTouch (map points_of l.contours)) (length l.contours) l.first
