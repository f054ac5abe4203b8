use Rattle.plane_geom.specs.Planes.{side}
use Rattle.plane_geom.proofs.Tests.{both, opposite_passed}
use Rattle.plane_geom.proofs.segments.lines_part.Goals as goal

pub returns : goal.returns
returns c =
    let a = c.args.a in
    let b = c.args.b in
    let p = c.args.c in
    let q = c.args.d in
    let first = opposite_passed c.opposite-first.result c.side.result c.side-2.result (side a b p) (side a b q)
    c.side.ensures.value c.side-2.ensures.value c.side.ensures.range c.side-2.ensures.range c.opposite-first.ensures
    in
    let second = opposite_passed c.opposite-second.result c.side-3.result c.side-4.result (side p q a) (side p q b)
    c.side-3.ensures.value c.side-4.ensures.value c.side-3.ensures.range c.side-4.ensures.range
    c.opposite-second.ensures in
    both _ _ _ _ first second
