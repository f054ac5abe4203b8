use Rattle.mesh_measures.specs.TriangleBoxes.{crosses_at}
use Rattle.mesh_measures.proofs.Layers.{room_one}
use Rattle.mesh_measures.proofs.counting.count_crossed.Goals as goal

pub count_one-own-requires-clause-room : goal.count_one-own-requires-clause-room
count_one-own-requires-clause-room c =
    λ i. room_one (crosses_at c.args.first.now i) c.args.others.now c.loop-other.other-index _ _ _ _
    c.loop-other-test.true (c.loop-other.invariant.counts i) (c.requires.room i)
