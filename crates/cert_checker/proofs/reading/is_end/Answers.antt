use Rattle.std.proofs.Common.{[]}
use Rattle.std.specs.Prelude.{codes}
use Rattle.text_io.specs.Text.{words}
use Rattle.text_io.proofs.WordLaws.{keyword_none}
use Rattle.cert_checker.proofs.reading.is_end.Goals as goal

pub returns-in-None : goal.returns-in-None
returns-in-None c m = keyword_none (words c.args.line.now) (codes "END") [] c.in-None.ensures m
