use Rattle.std.proofs.Common.{subst}
use Rattle.strip_graph.specs.Strips.{Strip}
use Rattle.row_paths.specs.Solutions.{Solves}
use Rattle.row_paths.proofs.SolutionLaws.{solves_least}
use Rattle.row_paths.proofs.solving.solve_with.Goals as goal

pub returns-clause-solves : goal.returns-clause-solves
returns-clause-solves g c = subst (λ (p : Strip). Solves p c.in_ok-searched-2.searched.solved) c.in_ok-layout.ensures
    c.in_ok-searched-2.ensures.solves

pub returns-clause-least : goal.returns-clause-least
returns-clause-least g c = solves_least c.args.pair.now c.in_ok-searched-2.searched.solved (returns-clause-solves g c)
