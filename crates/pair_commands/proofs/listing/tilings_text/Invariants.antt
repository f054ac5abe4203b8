use Rattle.std.proofs.Common.{◌≡◌, ◌++◌, ◌+◌, length, drop}
use Rattle.surface_core.specs.Objects.{numbered, pair_lists}
use Rattle.pair_commands.specs.Tilings.{objects_text}
use Rattle.pair_commands.proofs.listing.tilings_text.Given as goal

abbrev pub invariant-loop-i : goal.invariant-loop-i
invariant-loop-i l = record {
  text : l.text.items ++ objects_text l.objects.version (l.count + 1) (drop l.i l.objects.objects)
      (drop l.i (pair_lists l.pairs)) (drop l.count l.solved)
      ≡ objects_text l.objects.version 1 l.objects.objects (pair_lists l.pairs) l.solved;
  count : l.count + length (numbered (drop l.i (pair_lists l.pairs))) ≡ length l.solved;
}
