use Rattle.pair_pool.specs.Batches.{AreSlots, AreMade}
use Rattle.pair_pool.proofs.placing.in_places.Given as goal

abbrev pub invariant-loop-place : goal.invariant-loop-place
invariant-loop-place g l = record {
  slots : AreSlots (g.B.Batch.places l.batch) (g.B.Batch.is_right l.batch) l.slots.items;
  made : AreMade l.place (g.B.Batch.is_right l.batch) l.all.items;
}
