use Rattle.std.proofs.Common.{[], sym, subst, refl}
use Rattle.cert_checker.specs.CertTexts.{head_line}
use Rattle.text_io.specs.Formats.{kept_behind, last_line}
use Rattle.cert_checker.specs.CertReading.{IsCertificateFault}
use Rattle.cert_checker.specs.LineSteps.{head_parts}
use Rattle.cert_checker.proofs.Fronts.{begins_none}
use Rattle.cert_checker.proofs.NextLines.{short_none, stuck_head}
use Rattle.text_io.proofs.FormatLaws.{none_read, line_read, line_fault, stop_fault, line_in}
use Rattle.cert_checker.proofs.parsing.parse_head.Goals as goal

pub returns-in_default-clause-fault : goal.returns-in_default-clause-fault
returns-in_default-clause-fault c =
    let text = c.args.bytes.now in
    let passed = c.args.lines_before in
    subst (IsCertificateFault (kept_behind passed text) (last_line passed text)) (sym c.stopped.ensures)
    (stop_fault passed text 0 passed [] (none_read passed text) (c.in_default.ensures.none.0 refl) begins_none
    short_none)

pub returns-in_default-read_head-clause-fault : goal.returns-in_default-read_head-clause-fault
returns-in_default-read_head-clause-fault c =
    let text = c.args.bytes.now in
    let passed = c.args.lines_before in
    let line = c.in-Some.line in
    line_fault passed text 0 passed line.number line.first line.end line.next [] (none_read passed text)
    c.in-Some.ensures.found begins_none
    (stuck_head (line_in text line.first line.end) c.in_default-read_head.ensures)

pub returns-clause-ok : goal.returns-clause-ok
returns-clause-ok c =
    let text = c.args.bytes.now in
    let passed = c.args.lines_before in
    let line = c.in-Some.line in
    let head = c.in-Some-read_head.head in (
      c.in-Some-read_head.ensures.0,
      line_read passed text 0 passed line.number line.first line.end line.next []
          (head_line (head_parts head)) (none_read passed text) c.in-Some.ensures.found c.in-Some-read_head.ensures.1,
    )
