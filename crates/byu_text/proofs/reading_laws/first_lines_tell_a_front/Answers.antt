use Rattle.byu_text.proofs.PlainFronts.{front_from, mesh_from}
use Rattle.byu_text.proofs.reading_laws.first_lines_tell_a_front.Goals as goal

pub returns-clause-told : goal.returns-clause-told
returns-clause-told c text n l b = front_from text n b.0 b.1

pub returns-clause-made : goal.returns-clause-made
returns-clause-made c text n l f = mesh_from text n l f
