use Rattle.std.proofs.Common.{◌≡◌, ◌+◌, ◌-◌, ◌≤◌, length, drop}
use Rattle.text_io.specs.Text.{lines, kept_from}
use Rattle.text_io.specs.WordLists.{lines_of}
use Rattle.surface_commands.proofs.EditLemmas.{SoFar}
use Rattle.surface_commands.specs.EditSteps.{kept_in}
use Rattle.surface_commands.proofs.editing.put_answers.Given as goal

abbrev pub invariant-loop-line : goal.invariant-loop-line
invariant-loop-line g l = record {
  within : l.at ≤ length l.input;
  passed : l.number ≤ l.at;
  few : l.count ≤ l.at;
  later : g.P.PairSolver.solved_pairs l.fn.solver ≤ g.P.PairSolver.solved_pairs l.solver;
  same_workers : g.P.PairSolver.worker_count l.solver ≡ g.P.PairSolver.worker_count l.fn.solver;
  so_far : SoFar l.fn.session.sections (lines_of (kept_in l.input l.fn.tail))
      (lines_of (kept_from (l.number + 1) (lines (drop l.at l.input))))
      l.count l.fn.out.items l.out.items l.session.sections (g.P.PairSolver.solved_pairs l.fn.solver)
      (g.P.PairSolver.solved_pairs l.solver);
}

abbrev pub decreases-loop-line : goal.decreases-loop-line
decreases-loop-line g l = length l.input - l.at
