use Rattle.plane_geom.proofs.Tests.{both, overlap_passed}
use Rattle.plane_geom.proofs.segments.ranges_meet.Goals as goal

pub returns : goal.returns
returns c =
    let a = c.args.a in
    let b = c.args.b in
    let p = c.args.c in
    let q = c.args.d in
    let x = overlap_passed c.overlap-x.result a.x b.x p.x q.x c.requires.a.x c.requires.b.x c.requires.c.x
    c.requires.d.x c.overlap-x.ensures in
    let y = overlap_passed c.overlap-y.result a.y b.y p.y q.y c.requires.a.y c.requires.b.y c.requires.c.y
    c.requires.d.y c.overlap-y.ensures in
    both _ _ _ _ x y
