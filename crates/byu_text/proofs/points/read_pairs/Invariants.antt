use Rattle.std.proofs.Common.{◌≡◌, ◌+◌, ◌*◌, ◌++◌, length, drop}
use Rattle.std.specs.List.{concat}
use Rattle.byu_text.specs.Pieces.{ArePoints, point_lines}
use Rattle.byu_text.specs.Stages.{counts_of, point_lines_at}
use Rattle.byu_text.proofs.points.read_pairs.Given as goal

abbrev pub invariant-loop-pair : goal.invariant-loop-pair
invariant-loop-pair l = record {
  are : ArePoints (counts_of l.head) l.points.items;
  count : length l.points.items ≡ 2 * l.pair;
  lines : drop (point_lines_at (counts_of l.head)) l.text ≡ concat (point_lines l.points.items)
      ++ drop (point_lines_at (counts_of l.head) + 73 * l.pair) l.text;
}
