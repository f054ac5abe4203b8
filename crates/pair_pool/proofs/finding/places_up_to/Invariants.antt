use Rattle.std.proofs.Common.{◌<◌, All}
use Rattle.pair_pool.proofs.finding.places_up_to.Given as goal

abbrev pub invariant-loop-place : goal.invariant-loop-place
invariant-loop-place l = All (λ place. place < l.count) l.places.items
