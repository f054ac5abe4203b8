use Rattle.demo_stack.proofs.Border.{on_border, one_step}
use Rattle.demo_stack.proofs.laws.directions_go_round.Goals as goal

pub returns-clause-border : goal.returns-clause-border
returns-clause-border c = on_border

pub returns-clause-steps : goal.returns-clause-steps
returns-clause-steps c = one_step
