use Rattle.std.proofs.Common.{◌≡◌, ◌+◌}
use Rattle.row_paths.specs.Counts.{digits}
use Rattle.row_paths.proofs.divisions.digit_count.Given as goal

abbrev pub invariant-loop-rest : goal.invariant-loop-rest
invariant-loop-rest l = l.count + digits l.rest ≡ digits l.number

abbrev pub decreases-loop-rest : goal.decreases-loop-rest
decreases-loop-rest l = l.rest
