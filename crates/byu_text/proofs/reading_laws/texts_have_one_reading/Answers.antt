use Rattle.byu_text.proofs.Fronts.{no_fault, one_fault}
use Rattle.byu_text.proofs.Whole.{reads_one}
use Rattle.byu_text.proofs.reading_laws.texts_have_one_reading.Goals as goal

pub returns-clause-mesh : goal.returns-clause-mesh
returns-clause-mesh c = reads_one

pub returns-clause-line : goal.returns-clause-line
returns-clause-line c = one_fault

pub returns-clause-either : goal.returns-clause-either
returns-clause-either c text s n = no_fault text n s
