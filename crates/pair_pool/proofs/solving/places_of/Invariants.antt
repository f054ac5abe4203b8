use Rattle.std.proofs.Common.{◌<◌, All}
use Rattle.pair_pool.proofs.solving.places_of.Given as goal

abbrev pub invariant-loop-job : goal.invariant-loop-job
invariant-loop-job l = All (λ place. place < l.count) l.places.items
