use Rattle.section_core.proofs.Answers.{file_holds}
use Rattle.section_core.proofs.Only.{file_only}
use Rattle.section_core.proofs.reader_is_right.Goals as goal

pub returns-clause-right : goal.returns-clause-right
returns-clause-right c = file_holds

pub returns-clause-only : goal.returns-clause-only
returns-clause-only c = file_only
