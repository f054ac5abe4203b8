use Rattle.std.proofs.Common.{arith, length, map}
use Rattle.std.proofs.lemmas.List.{length-map}
use Rattle.correspondence.specs.Contours.{points_of}
use Rattle.correspondence.specs.Apart.{ContoursTouch}
use Rattle.correspondence.proofs.Firsts.{one_place_less, pair_from}
use Rattle.correspondence.proofs.apart.first_touching.Goals as goal

pub returns-in-Some : goal.returns-in-Some
returns-in-Some c = pair_from (ContoursTouch (map points_of c.args.contours.now)) (length c.args.contours.now)
    c.loop-first.first c.in-Some.second c.loop-first.invariant c.in-Some.ensures

pub loop-first-preserved : goal.loop-first-preserved
loop-first-preserved c = one_place_less (ContoursTouch (map points_of c.args.contours.now)) (length c.args.contours.now)
    c.loop-first.first c.loop-first.invariant c.in_default.ensures

pub returns : goal.returns
returns c e f o w a = c.loop-first.invariant e f o (omega (arith, length-map c.args.contours.now points_of))
    (omega (arith, length-map c.args.contours.now points_of)) a
