use Rattle.std.proofs.Common.{All}
use Rattle.pair_pool.specs.Batches.{IsMadeAt}
use Rattle.pair_pool.proofs.drawing.draw.Given as goal

abbrev pub invariant-loop : goal.invariant-loop
invariant-loop g l = All (λ d. IsMadeAt (g.B.Batch.places l.batch) (g.B.Batch.is_right l.batch) d.0 d.1) l.drawn.items
