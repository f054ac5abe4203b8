use Rattle.text_io.proofs.WrittenLines.{text_matches}
use Rattle.text_io.proofs.laws.written_lines_are_read.Goals as goal

pub returns : goal.returns
returns c = text_matches
