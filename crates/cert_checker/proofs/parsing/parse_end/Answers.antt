use Rattle.std.proofs.Common.{◌≤◌, ◌*◌, sym, subst, refl, arith}
use Rattle.cert_checker.specs.CertTexts.{certificate_end}
use Rattle.text_io.specs.Formats.{kept_behind, last_line}
use Rattle.cert_checker.specs.CertReading.{IsCertificateFault}
use Rattle.cert_checker.specs.LineSteps.{head_parts}
use Rattle.cert_checker.proofs.Fronts.{begins_rows}
use Rattle.cert_checker.proofs.NextLines.{short_rows, stuck_end, stuck_past}
use Rattle.text_io.proofs.FormatLaws.{begins_whole, line_read, line_fault, stop_fault, all_read}
use Rattle.cert_checker.proofs.parsing.parse_end.Goals as goal

pub returns-in_default-clause-fault : goal.returns-in_default-clause-fault
returns-in_default-clause-fault c =
    let h = head_parts c.args.head in
    let w = c.args.word.now in
    let v = c.args.values.now in
    let le : 2 * h.rows ≤ 2 * h.rows = omega arith in
    subst (IsCertificateFault (kept_behind c.args.lines_before c.args.bytes.now)
    (last_line c.args.lines_before c.args.bytes.now)) (sym c.stopped.ensures)
    (stop_fault _ _ _ _ _ c.requires.read (c.in_default.ensures.none.0 refl)
    (begins_rows h w _ v c.requires.head c.requires.word le c.requires.count c.requires.modest)
    (short_rows h w _ v le))

pub returns-then-not-is_end-clause-fault : goal.returns-then-not-is_end-clause-fault
returns-then-not-is_end-clause-fault c =
    let h = head_parts c.args.head in
    let w = c.args.word.now in
    let v = c.args.values.now in
    line_fault _ _ _ _ _ _ _ _ _ c.requires.read c.in-Some.ensures.found
    (begins_rows h w _ v c.requires.head c.requires.word (omega arith) c.requires.count c.requires.modest)
    (stuck_end h w v _ c.if-not-is_end.ensures)

pub returns-in-None-clause-ok : goal.returns-in-None-clause-ok
returns-in-None-clause-ok c = record {
  lawful =
      record { head = c.requires.head; word = c.requires.word; count = c.requires.count; values = c.requires.modest };
  match = all_read _ _ _ _ _
      (line_read _ _ _ _ _ _ _ _ _ certificate_end c.requires.read c.in-Some.ensures.found c.if-not-is_end.ensures)
      (c.in-None.ensures.none.0 refl);
}

pub returns-in-Some-kept_line_at-clause-fault : goal.returns-in-Some-kept_line_at-clause-fault
returns-in-Some-kept_line_at-clause-fault c =
    let h = head_parts c.args.head in
    let w = c.args.word.now in
    let v = c.args.values.now in
    line_fault _ _ _ _ _ _ _ _ _
    (line_read _ _ _ _ _ _ _ _ _ certificate_end c.requires.read c.in-Some.ensures.found c.if-not-is_end.ensures)
    c.in-Some-kept_line_at.ensures.found
    (begins_whole (record { head = h; word = w; values = v })
    (record { head = c.requires.head; word = c.requires.word; count = c.requires.count; values = c.requires.modest }))
    (stuck_past h w v _)
