use Rattle.demo_stack.proofs.Demos.{demo_accepted}
use Rattle.demo_stack.proofs.laws.stacks_are_accepted.Goals as goal

pub returns : goal.returns
returns c = demo_accepted
