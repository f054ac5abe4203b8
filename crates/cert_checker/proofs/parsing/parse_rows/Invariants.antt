use Rattle.std.proofs.Common.{◌≡◌, ◌+◌, ◌*◌, length, All}
use Rattle.strip_graph.specs.Certificates.{IsModest}
use Rattle.text_io.specs.Formats.{HasRead}
use Rattle.cert_checker.specs.LineSteps.{head_parts, first_lines}
use Rattle.cert_checker.proofs.parsing.parse_rows.Given as goal

abbrev pub invariant-loop-row : goal.invariant-loop-row
invariant-loop-row l = record {
  count : length l.values.items ≡ l.row * (l.head.cols + 1);
  modest : All IsModest l.values.items;
  read : HasRead l.lines_before l.bytes l.place.at l.place.number
      (first_lines (head_parts l.head) l.word l.row l.values.items);
}
