use Rattle.std.proofs.Common.{◌≡◌, ◌+◌, length, drop, map}
use Rattle.section_core.specs.Objects.{object_parts}
use Rattle.section_core.specs.Parts.{all_sections, contours_of}
use Rattle.surface_commands.proofs.reporting.count_contours.Given as goal

abbrev pub invariant-loop-object : goal.invariant-loop-object
invariant-loop-object l =
    l.count + length (contours_of (all_sections (map object_parts (drop l.object-index l.object-items))))
    ≡ length (contours_of (all_sections (map object_parts l.object-items)))
