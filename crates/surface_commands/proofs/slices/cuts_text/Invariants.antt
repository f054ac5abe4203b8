use Rattle.std.proofs.Common.{◌≡◌, map, take}
use Rattle.section_core.specs.Objects.{object_parts}
use Rattle.surface_commands.specs.Slice.{cuts_text}
use Rattle.surface_commands.proofs.slices.cuts_text.Given as goal

abbrev pub invariant-loop-i : goal.invariant-loop-i
invariant-loop-i l = l.text.items ≡ cuts_text l.objects.version l.fn.z (map object_parts (take l.i l.items))
    (take l.i l.cuts)
