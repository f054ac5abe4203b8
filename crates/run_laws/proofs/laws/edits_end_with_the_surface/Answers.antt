use Rattle.run_laws.proofs.EditedLaws.{edits_end}
use Rattle.run_laws.proofs.laws.edits_end_with_the_surface.Goals as goal

pub returns : goal.returns
returns c = edits_end
