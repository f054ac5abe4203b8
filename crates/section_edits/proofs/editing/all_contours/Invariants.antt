use Rattle.std.proofs.Common.{◌≡◌, ◌^◌, ◌-◌, min, take, length}
use Rattle.std.specs.List.{sum_by}
use Rattle.section_core.specs.declared.parts.Section.{Section}
use Rattle.section_edits.proofs.editing.all_contours.Given as goal

abbrev pub invariant-loop-section : goal.invariant-loop-section
invariant-loop-section l = l.count
    ≡ min (sum_by (λ (s : Section). length s.contours.items) (take l.section-index l.sections)) (2 ^ 64 - 1)
