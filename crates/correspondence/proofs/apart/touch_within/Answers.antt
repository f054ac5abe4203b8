use Rattle.std.proofs.Common.{map}
use Rattle.correspondence.specs.Contours.{points_of, contour_at}
use Rattle.correspondence.proofs.Enclosed.{bounds_meet, apart_by_bounds}
use Rattle.correspondence.proofs.apart.touch_within.Goals as goal

pub returns-then-not-meet : goal.returns-then-not-meet
returns-then-not-meet c =
    let contours = map points_of c.args.contours.now in
    apart_by_bounds c.meet.result _ _ c.if-not-meet.true c.meet.ensures
    (bounds_meet c.args.one c.args.other (contour_at contours c.args.first) (contour_at contours c.args.second)
    c.requires.one c.requires.other)
