use Rattle.std.proofs.Common.{◌≡◌, ◌+◌, ◌*◌, ◌++◌, length, drop}
use Rattle.std.specs.Prelude.{sum}
use Rattle.std.specs.List.{concat}
use Rattle.byu_text.specs.Pieces.{AreSizes, size_lines}
use Rattle.byu_text.specs.Stages.{counts_of}
use Rattle.byu_text.proofs.sizes.read_sizes.Given as goal

abbrev pub invariant-loop-part : goal.invariant-loop-part
invariant-loop-part l = record {
  are : AreSizes (counts_of l.head) l.sizes.items;
  count : length l.sizes.items ≡ l.part;
  first : l.first ≡ 1 + sum l.sizes.items;
  lines : drop 33 l.text ≡ concat (size_lines 1 l.sizes.items) ++ drop (33 + 17 * l.part) l.text;
}
