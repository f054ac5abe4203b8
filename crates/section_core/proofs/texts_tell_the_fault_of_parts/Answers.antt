use Rattle.section_core.proofs.MadeTexts.{texts_tell}
use Rattle.section_core.proofs.texts_tell_the_fault_of_parts.Goals as goal

pub returns : goal.returns
returns c = texts_tell
