use Rattle.section_edits.proofs.LineLaws.{one_edit}
use Rattle.section_edits.proofs.laws.lines_have_one_edit.Goals as goal

pub returns : goal.returns
returns c = record { one_edit = λ line e f h k. one_edit line e f h.0 k.0 }
