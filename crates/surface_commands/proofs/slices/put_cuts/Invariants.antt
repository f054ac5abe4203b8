use Rattle.std.proofs.Common.{◌≡◌, ◌++◌, take}
use Rattle.std.specs.List.{flat_map}
use Rattle.surface_commands.specs.Slice.{cut_text}
use Rattle.surface_commands.proofs.slices.put_cuts.Given as goal

abbrev pub invariant-loop-cut : goal.invariant-loop-cut
invariant-loop-cut l = l.out.items ≡ l.fn.out.items ++ flat_map cut_text (take l.cut-index l.cuts)
