use Rattle.section_core.specs.declared.parts.Version.TheVariants.{One}
use Rattle.text_io.specs.Text.{kept_lines}
use Rattle.section_core.specs.Machine.{at_version}
use Rattle.section_core.specs.Reader.{read_file}
use Rattle.section_core.proofs.Answers.{file_holds}
use Rattle.section_text.proofs.FrontLemmas.{one_ok, one_err, one_version}
use Rattle.section_text.proofs.front.read_one.Goals as goal

pub into_only-requires : goal.into_only-requires
into_only-requires c = one_version c.args.bytes.now (read_file One at_version (kept_lines c.args.bytes.now))
    c.in-Ok.front (file_holds One (kept_lines c.args.bytes.now)) c.in-Ok.ensures.parses

pub returns-in-Err-clause-parses : goal.returns-in-Err-clause-parses
returns-in-Err-clause-parses c = one_err c.args.bytes.now (read_file One at_version (kept_lines c.args.bytes.now))
    c.in-Err.fault c.in-Err.ensures.parses

pub returns-in-Ok-clause-parses : goal.returns-in-Ok-clause-parses
returns-in-Ok-clause-parses c = one_ok c.args.bytes.now (read_file One at_version (kept_lines c.args.bytes.now))
    c.in-Ok.front c.into_only.result c.into_only.ensures c.in-Ok.ensures.parses
