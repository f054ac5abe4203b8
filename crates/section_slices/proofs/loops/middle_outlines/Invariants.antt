use Rattle.std.proofs.Common.{◌≡◌, ◌≤◌, length}
use Rattle.section_slices.specs.Marks.{outlines_of}
use Rattle.section_slices.proofs.Outlines.{rank, dense_test, AreSoFar}
use Rattle.section_slices.proofs.loops.middle_outlines.Given as goal

abbrev pub invariant-loop-pair : goal.invariant-loop-pair
invariant-loop-pair l = record {
  count : length l.outlines.items ≡ l.pair-index;
  next : l.next ≡ rank (dense_test l.sections l.pairs) l.pairs l.pair-index;
  few : l.next ≤ l.pair-index;
  each : AreSoFar l.sections l.pairs (outlines_of l.outlines.items);
}
