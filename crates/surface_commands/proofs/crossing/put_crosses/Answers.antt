use Rattle.std.proofs.Common.{arith, refl, ◌+◌}
use Rattle.surface_commands.proofs.MeshLemmas.{crosses_more}
use Rattle.surface_commands.proofs.crossing.put_crosses.Goals as goal

pub loop-place-preserved : goal.loop-place-preserved
loop-place-preserved c =
    crosses_more c.args.counts.now c.loop-place.place (c.args.first + c.loop-place.place)
    (c.args.first + (c.loop-place.place + 1)) _ c.loop-place.out.items c.put_cross.new.out.items _
    c.loop-place-test.true refl (omega arith) c.in_ok-put_cross.ensures c.loop-place.invariant
