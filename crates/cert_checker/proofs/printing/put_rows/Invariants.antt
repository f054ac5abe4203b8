use Rattle.std.proofs.Common.{◌≡◌, ◌++◌, map}
use Rattle.std.specs.List.{flat_map}
use Rattle.text_io.specs.WordLists.{line_text}
use Rattle.cert_checker.specs.CertTexts.{row_line, rows_in}
use Rattle.cert_checker.proofs.printing.put_rows.Given as goal

abbrev pub invariant-loop-row : goal.invariant-loop-row
invariant-loop-row l = l.out.items ≡ l.fn.out.items
    ++ flat_map line_text (map row_line (rows_in l.width l.row l.values))
