use Rattle.std.proofs.Common.{arith, ◌%◌, ◌<◌, length, sym, ◌∙◌, mod-lt}
use Rattle.plane_geom.specs.Rings.{around, origin}
use Rattle.strip_graph.proofs.layout.is_level.Goals as goal

pub returns : goal.returns
unfolding around
returns c t j k =
    let n = length c.args.ring.now in
    let some : 0 < n = omega (arith, c.requires.enough) in
    c.loop-point.invariant (j % n) origin (omega (arith, mod-lt j some, c.loop-point-test.false))
    ∙ sym (c.loop-point.invariant (k % n) origin (omega (arith, mod-lt k some, c.loop-point-test.false)))
