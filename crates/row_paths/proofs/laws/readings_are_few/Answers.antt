use Rattle.row_paths.proofs.ReadingLaws.{readings-fewer, bound-1024, plain-1024}
use Rattle.row_paths.proofs.laws.readings_are_few.Goals as goal

pub returns-clause-bound : goal.returns-clause-bound
returns-clause-bound c = bound-1024

pub returns-clause-plain : goal.returns-clause-plain
returns-clause-plain c = plain-1024

pub returns-clause-fewer : goal.returns-clause-fewer
returns-clause-fewer c = readings-fewer
