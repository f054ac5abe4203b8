use Rattle.std.proofs.Common.{arith}
use Rattle.byu_text.proofs.FilledDigits.{filled_one, filled_two, filled_three, filled_four, filled_five, filled_six}
use Rattle.byu_text.proofs.fields.filled.Goals as goal

pub returns-then-number-lt10-clause-filled : goal.returns-then-number-lt10-clause-filled
returns-then-number-lt10-clause-filled c = filled_one c.args.number (omega arith)

pub returns-then-number-lt100-clause-filled : goal.returns-then-number-lt100-clause-filled
returns-then-number-lt100-clause-filled c = filled_two c.args.number (omega arith) (omega arith)

pub returns-then-number-lt1000-clause-filled : goal.returns-then-number-lt1000-clause-filled
returns-then-number-lt1000-clause-filled c = filled_three c.args.number (omega arith) (omega arith)

pub returns-then-number-lt10000-clause-filled : goal.returns-then-number-lt10000-clause-filled
returns-then-number-lt10000-clause-filled c = filled_four c.args.number (omega arith) (omega arith)

pub returns-then-number-lt100000-clause-filled : goal.returns-then-number-lt100000-clause-filled
returns-then-number-lt100000-clause-filled c = filled_five c.args.number (omega arith) (omega arith)

pub returns-else-number-lt100000-clause-filled : goal.returns-else-number-lt100000-clause-filled
returns-else-number-lt100000-clause-filled c = filled_six c.args.number (omega arith) (omega arith)
