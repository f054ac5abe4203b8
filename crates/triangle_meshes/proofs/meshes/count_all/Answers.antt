use Rattle.std.proofs.Common.{arith}
use Rattle.triangle_meshes.proofs.TriangleCounts.{count_more}
use Rattle.triangle_meshes.proofs.meshes.count_all.Goals as goal

pub loop-triangle-preserved : goal.loop-triangle-preserved
loop-triangle-preserved c =
    let ts = c.args.triangles.now in
    let i = c.loop-triangle.triangle-index in
    record {
      count = omega (
        arith,
        c.loop-triangle.invariant.count,
        c.count_in-count.ensures.value,
        count_more ts i c.args.u c.args.v c.loop-triangle-test.true (c.told-triangles i c.loop-triangle-test.true),
      );
      bound = omega arith;
    }
