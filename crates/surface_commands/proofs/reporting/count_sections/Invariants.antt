use Rattle.std.proofs.Common.{◌≡◌, ◌+◌, length, drop, map}
use Rattle.section_core.specs.Objects.{object_parts}
use Rattle.section_core.specs.Parts.{all_sections}
use Rattle.surface_commands.proofs.reporting.count_sections.Given as goal

abbrev pub invariant-loop-object : goal.invariant-loop-object
invariant-loop-object l =
    l.count + length (all_sections (map object_parts (drop l.object-index l.object-items)))
    ≡ length (all_sections (map object_parts l.object-items))
