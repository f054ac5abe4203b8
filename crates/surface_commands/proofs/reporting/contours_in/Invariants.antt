use Rattle.std.proofs.Common.{◌≡◌, length, take, sum_by}
use Rattle.section_core.specs.declared.parts.Section.{Section}
use Rattle.surface_commands.proofs.reporting.contours_in.Given as goal

abbrev pub invariant-loop-section : goal.invariant-loop-section
invariant-loop-section l = l.count ≡ sum_by (λ (s : Section). length s.contours.items) (take l.section-index l.sections)
