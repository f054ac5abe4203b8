use Rattle.std.proofs.Common.{map, ◌∷◌, []}
use Rattle.std.specs.Prelude.{codes}
use Rattle.text_io.specs.Text.{words}
use Rattle.text_io.specs.WordLists.{text}
use Rattle.text_io.proofs.WordLaws.{keyword_none}
use Rattle.cert_checker.specs.CertTexts.{letter}
use Rattle.cert_checker.proofs.reading.read_word.Goals as goal

pub returns-in_default : goal.returns-in_default
returns-in_default c w is m =
    keyword_none (words c.args.line.now) (codes "WORD") (text (map letter w) ∷ []) c.in_default.ensures m
