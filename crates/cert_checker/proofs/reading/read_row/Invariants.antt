use Rattle.text_io.specs.Text.{words}
use Rattle.cert_checker.proofs.RowWords.{RowSoFar}
use Rattle.cert_checker.proofs.reading.read_row.Given as goal

abbrev pub invariant-loop-done : goal.invariant-loop-done
invariant-loop-done l = RowSoFar l.fn.values.items l.values.items (words l.line) (words l.rest) l._done
