use Rattle.std.proofs.Common.{◌≡◌, length}
use Rattle.text_io.specs.Text.{words}
use Rattle.section_edits.proofs.Wording.{Reads}
use Rattle.section_edits.proofs.lines.spots_of.Given as goal

abbrev pub invariant-loop-done : goal.invariant-loop-done
invariant-loop-done l = record {
  count : length l.spots.items ≡ l._done;
  reads : Reads (words l.line) (words l.rest) l.spots.items;
}
