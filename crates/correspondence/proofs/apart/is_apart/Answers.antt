use Rattle.std.proofs.Common.{◌≤◌, map, arith}
use borrow.Author.Count.{below_more}
use Rattle.correspondence.specs.Contours.{points_of, contour_at}
use Rattle.correspondence.specs.Apart.{ContoursTouch}
use Rattle.correspondence.proofs.Rules.{untrue}
use Rattle.correspondence.proofs.Enclosed.{bounds_meet}
use Rattle.correspondence.proofs.apart.is_apart.Goals as goal

pub returns-then-not-meet : goal.returns-then-not-meet
returns-then-not-meet c t first from to before touch =
    let contours = map points_of c.args.contours.now in
    let meet = bounds_meet c.args.group.now.bounds c.bounds_at-bounds.result (contour_at contours first)
    (contour_at contours c.args.second) (c.requires.group.enclosed first from to) c.bounds_at-bounds.ensures touch
    in
    untrue c.meet.result c.if-not-meet.true (c.meet.ensures.1 meet)

pub loop-first-preserved : goal.loop-first-preserved
loop-first-preserved c first from below =
    let contours = map points_of c.args.contours.now in
    below_more (λ k. c.args.group.now.begin ≤ k → ContoursTouch contours k c.args.second → ⊥) c.loop-first.first
    (λ k l g. c.loop-first.invariant k g l)
    (λ g s. untrue c.touch_within.result c.if-touch_within.false (c.touch_within.ensures.1 s)) first below from

pub returns : goal.returns
returns c t first from to before touch =
    c.loop-first.invariant first from (omega (arith, to, before, c.loop-first-test.false, c.min-first-end.ensures))
    touch
