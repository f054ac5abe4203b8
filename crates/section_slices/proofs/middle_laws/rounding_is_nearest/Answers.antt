use Rattle.std.proofs.Common.{arith, pos, ◌*◌, ◌+ℤ◌, ◌*ℤ◌}
use Rattle.section_slices.proofs.Rounds.{floor, close, greatest}
use Rattle.section_slices.proofs.middle_laws.rounding_is_nearest.Goals as goal

pub returns-clause-not_above : goal.returns-clause-not_above
returns-clause-not_above c d x h = (floor ((pos 2 *ℤ x) +ℤ pos d) (2 * d) (omega arith)).0

pub returns-clause-greatest : goal.returns-clause-greatest
returns-clause-greatest c d x y h k = greatest d x y h k

pub returns-clause-close : goal.returns-clause-close
returns-clause-close c = close
