use Rattle.std.proofs.Common.{◌≡◌, ◌^◌, ◌-◌, min, take}
use Rattle.std.specs.List.{sum_by}
use Rattle.section_core.specs.declared.parts.Section.{Section}
use Rattle.section_core.specs.Laws.{section_vertices}
use Rattle.section_core.specs.Views.{section_parts}
use Rattle.section_edits.proofs.editing.all_vertices.Given as goal

abbrev pub invariant-loop-section : goal.invariant-loop-section
invariant-loop-section l = l.count
    ≡ min (sum_by (λ (s : Section). section_vertices (section_parts s)) (take l.section-index l.sections)) (2 ^ 64 - 1)
