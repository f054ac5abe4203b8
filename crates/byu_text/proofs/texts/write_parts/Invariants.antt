use Rattle.std.proofs.Common.{◌≡◌, ◌+◌, ◌++◌, take, drop, length}
use Rattle.std.specs.Prelude.{sum_by}
use Rattle.triangle_meshes.specs.Meshes.{triangle_lists}
use Rattle.byu_text.specs.Byu.{part_ranges}
use Rattle.byu_text.proofs.texts.write_parts.Given as goal

abbrev pub invariant-loop-part : goal.invariant-loop-part
invariant-loop-part l = record {
  lines : l.text.items ++ part_ranges l.next (drop l.part-index (triangle_lists l.parts)) ≡ l.initial.text.items
      ++ part_ranges 1 (triangle_lists l.parts);
  next : l.next ≡ 1 + sum_by length (take l.part-index (triangle_lists l.parts));
}
