use Rattle.std.proofs.Common.{◌≡◌, map, take}
use Rattle.section_edits.specs.Plans.{solution_from}
use Rattle.section_edits.proofs.plans.solutions.Given as goal

abbrev pub invariant-loop-origin : goal.invariant-loop-origin
invariant-loop-origin l = l.solutions.items ≡ map (solution_from l.kept l.solved) (take l.origin-index l.origins)
