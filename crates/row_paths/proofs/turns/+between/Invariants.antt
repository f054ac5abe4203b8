use Rattle.std.proofs.Common.{◌-◌}
use Rattle.row_paths.proofs.turns.+between.Given as goal

abbrev pub decreases-between : goal.decreases-between
decreases-between g l = l.gap.now.last - l.gap.now.first
