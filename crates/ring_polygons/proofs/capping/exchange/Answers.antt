use Rattle.ring_polygons.proofs.Turned.{flip_more}
use Rattle.ring_polygons.proofs.capping.exchange.Goals as goal

pub loop-triangle-preserved : goal.loop-triangle-preserved
loop-triangle-preserved c = flip_more c.args.triangles.now c.loop-triangle.triangles c.loop-triangle.triangle-index
    c.loop-triangle-test.true c.loop-triangle.auto.triangles
    (c.told-triangles c.loop-triangle.triangle-index c.loop-triangle-test.true) c.loop-triangle.invariant
