use Rattle.std.proofs.Common.{◌≡◌, map, take}
use Rattle.section_core.specs.Flat.{section_data}
use Rattle.section_core.proofs.sections.copy_sections.Given as goal

abbrev pub invariant-loop-section : goal.invariant-loop-section
invariant-loop-section l = map section_data l.copied.items ≡ map section_data (take l.section-index l.sections)
