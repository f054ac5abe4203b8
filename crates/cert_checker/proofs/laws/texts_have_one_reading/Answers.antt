use Rattle.text_io.proofs.FormatLaws.{one_line_fault, no_line_fault}
use Rattle.cert_checker.proofs.TextLaws.{reads_one}
use Rattle.cert_checker.proofs.laws.texts_have_one_reading.Goals as goal

pub returns-clause-certificate : goal.returns-clause-certificate
returns-clause-certificate c = reads_one

pub returns-clause-line : goal.returns-clause-line
returns-clause-line c = one_line_fault

pub returns-clause-either : goal.returns-clause-either
returns-clause-either c = no_line_fault
