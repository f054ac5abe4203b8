use Rattle.std.proofs.Common.{◌≡◌}
use Rattle.row_paths.specs.Counts.{area}
use Rattle.row_paths.specs.Searches.{bound_at, last_at}
use Rattle.row_paths.specs.Turns.{start_of}
use Rattle.row_paths.proofs.divisions.places_between.Given as goal

abbrev pub invariant-loop-k : goal.invariant-loop-k
invariant-loop-k g l = l.places ≡ area (bound_at l.gap.lo.now) (last_at l.gap.hi.now) (start_of l.gap.first) l.k
