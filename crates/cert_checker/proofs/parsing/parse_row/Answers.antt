use Rattle.std.proofs.Common.{◌≤◌, ◌*◌, ◌+◌, List, sym, subst, refl, arith}
use Rattle.std.proofs.lemmas.Bool.{MatchBool-at_true, MatchBool-at_false}
use Rattle.text_io.specs.WordLists.{Word}
use Rattle.cert_checker.specs.CertTexts.{row_line}
use Rattle.text_io.specs.Formats.{kept_behind, last_line}
use Rattle.cert_checker.specs.CertReading.{IsCertificateFault}
use Rattle.text_io.specs.Formats.{HasRead}
use Rattle.cert_checker.specs.LineSteps.{PutsRow, head_parts}
use Rattle.cert_checker.proofs.Fronts.{begins_rows, lines_more}
use Rattle.cert_checker.proofs.NextLines.{short_rows, stuck_row}
use Rattle.text_io.proofs.FormatLaws.{line_read, line_fault, stop_fault, line_in}
use Rattle.cert_checker.proofs.parsing.parse_row.Goals as goal

pub returns-in_default-clause-fault : goal.returns-in_default-clause-fault
returns-in_default-clause-fault c =
    let h = head_parts c.args.head in
    let v = c.args.values.now.items in
    let le : c.args.row ≤ 2 * h.rows = omega (arith, c.requires.row) in
    subst (IsCertificateFault (kept_behind c.args.lines_before c.args.bytes.now)
    (last_line c.args.lines_before c.args.bytes.now)) (sym c.stopped.ensures)
    (stop_fault _ _ _ _ _ c.requires.read (c.in_default.ensures.none.0 refl)
    (begins_rows h c.args.word.now _ v c.requires.head c.requires.word le c.requires.count c.requires.modest)
    (short_rows h c.args.word.now _ v le))

pub returns-then-not-branch-clause-fault : goal.returns-then-not-branch-clause-fault
returns-then-not-branch-clause-fault c =
    let h = head_parts c.args.head in
    let w = c.args.word.now in
    let v = c.args.values.now.items in
    let le : c.args.row ≤ 2 * h.rows = omega (arith, c.requires.row) in
    line_fault _ _ _ _ _ _ _ _ _ c.requires.read c.in-Some.ensures.found
    (begins_rows h w _ v c.requires.head c.requires.word le c.requires.count c.requires.modest)
    (stuck_row h w _ v _ c.requires.row (MatchBool-at_false _ _ c.if-not-branch.true c.in_ok-read_row.ensures))

pub returns-clause-ok : goal.returns-clause-ok
returns-clause-ok c =
    let h = head_parts c.args.head in
    let line = c.in-Some.line in
    let put = MatchBool-at_true
    (PutsRow (line_in c.args.bytes.now line.first line.end) (h.cols + 1) c.args.values.now.items
    c.read_row.new.values.items) _ c.if-not-branch.false c.in_ok-read_row.ensures in
    subst (λ (ls : List (List Word)). HasRead c.args.lines_before c.args.bytes.now line.next line.number ls)
    (lines_more h c.args.word.now c.args.row _ _ put.row c.requires.count put.is_row.0 put.put)
    (line_read _ _ _ _ _ _ _ _ _ (row_line put.row) c.requires.read c.in-Some.ensures.found put.match)
