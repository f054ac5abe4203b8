use Rattle.section_edits.proofs.EditLaws.{not_both, one_refusal, one_result}
use Rattle.section_edits.proofs.session_laws.edits_are_one.Goals as goal

pub returns-clause-none : goal.returns-clause-none
returns-clause-none c = not_both

pub returns-clause-one_refusal : goal.returns-clause-one_refusal
returns-clause-one_refusal c = one_refusal

pub returns-clause-one : goal.returns-clause-one
returns-clause-one c = one_result
