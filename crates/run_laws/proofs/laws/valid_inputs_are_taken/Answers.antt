use Rattle.run_laws.proofs.ValidLaws.{valid_done, valid_run}
use Rattle.run_laws.proofs.laws.valid_inputs_are_taken.Goals as goal

pub returns-clause-done : goal.returns-clause-done
returns-clause-done c = valid_done

pub returns-clause-run : goal.returns-clause-run
returns-clause-run c = valid_run
