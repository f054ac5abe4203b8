use Rattle.std.proofs.Common.{◌≡◌, ◌++◌, take}
use Rattle.std.specs.List.{flat_map}
use Rattle.surface_commands.specs.Slice.{loop_text}
use Rattle.surface_commands.proofs.slices.put_loops.Given as goal

abbrev pub invariant-loop-cuts : goal.invariant-loop-cuts
invariant-loop-cuts l = l.out.items ≡ l.fn.out.items ++ flat_map (λ v. loop_text v.items) (take l.cuts-index l.loops)
