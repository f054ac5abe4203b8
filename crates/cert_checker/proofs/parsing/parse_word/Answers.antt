use Rattle.std.proofs.Common.{sym, subst, refl}
use Rattle.std.proofs.lemmas.Option.{MatchOption-at_none, MatchOption-at_some}
use Rattle.cert_checker.specs.CertTexts.{word_line}
use Rattle.text_io.specs.Formats.{kept_behind, last_line}
use Rattle.cert_checker.specs.CertReading.{IsCertificateFault}
use Rattle.cert_checker.specs.LineSteps.{head_parts}
use Rattle.cert_checker.proofs.Fronts.{begins_head}
use Rattle.cert_checker.proofs.NextLines.{short_head, stuck_word}
use Rattle.text_io.proofs.FormatLaws.{line_read, line_fault, stop_fault}
use Rattle.cert_checker.proofs.parsing.parse_word.Goals as goal

pub returns-in_default-clause-fault : goal.returns-in_default-clause-fault
returns-in_default-clause-fault c =
    let h = head_parts c.args.head in
    subst (IsCertificateFault (kept_behind c.args.lines_before c.args.bytes.now)
    (last_line c.args.lines_before c.args.bytes.now)) (sym c.stopped.ensures)
    (stop_fault _ _ _ _ _ c.requires.read (c.in_default.ensures.none.0 refl) (begins_head h c.requires.head)
    (short_head h))

pub returns-in_default-2-clause-fault : goal.returns-in_default-2-clause-fault
returns-in_default-2-clause-fault c =
    let h = head_parts c.args.head in
    line_fault _ _ _ _ _ _ _ _ _ c.requires.read c.in-Some.ensures.found (begins_head h c.requires.head)
    (stuck_word h _ (MatchOption-at_none _ _ c.in_default-2.is c.in_ok-word.ensures))

pub returns-clause-ok : goal.returns-clause-ok
returns-clause-ok c =
    let is = MatchOption-at_some _ _ c.in-Some-2.word c.in-Some-2.is c.in_ok-word.ensures in (
      is.0,
      line_read _ _ _ _ _ _ _ _ _ (word_line c.in-Some-2.word.items) c.requires.read c.in-Some.ensures.found is.1,
    )
