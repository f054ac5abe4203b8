use Rattle.pair_pool.specs.Batches.{AreMade}
use Rattle.pair_pool.proofs.placing.in_order.Given as goal

abbrev pub invariant-loop-place : goal.invariant-loop-place
invariant-loop-place g l = AreMade l.place (g.B.Batch.is_right l.batch) l.all.items
