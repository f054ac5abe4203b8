use Rattle.std.proofs.Common.{◌≡◌, ℕ, All, None, length, get_or}
use Rattle.std.specs.Prelude.{IfSome, IsSome}
use Rattle.pair_pool.specs.Batches.{AreSlots}
use Rattle.pair_pool.proofs.Taken.{AreTaken}
use Rattle.pair_pool.proofs.placing.placed.Given as goal

abbrev pub invariant-loop : goal.invariant-loop
invariant-loop g l = record {
  count : length l.slots.items ≡ l.counter;
  each : (k : ℕ) → IfSome (get_or l.slots.items k None) (g.B.Batch.is_right l.batch k);
}

abbrev pub invariant-loop-place : goal.invariant-loop-place
invariant-loop-place g l = record {
  next : (goal.iterator-loop-place g).can_next l.place-iterator;
  finite : (goal.iterator-loop-place g).is_finite l.place-iterator;
  taken : AreTaken l.fn.drawn.items l.yielded l.place-iterator.rest.items l.place-iterator.rest.len;
  slots : AreSlots (g.B.Batch.places l.batch) (g.B.Batch.is_right l.batch) l.slots.items;
  full : All (λ d. IsSome (get_or l.slots.items d.0 None)) l.yielded;
}
