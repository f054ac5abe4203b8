use Rattle.std.proofs.Common.{◌≡◌, ◌^◌, ◌-◌, min, take, length}
use Rattle.std.specs.List.{sum_by}
use Rattle.section_core.specs.declared.parts.Contour.{Contour}
use Rattle.section_edits.proofs.editing.vertices_in.Given as goal

abbrev pub invariant-loop-contour : goal.invariant-loop-contour
invariant-loop-contour l = l.count
    ≡ min (sum_by (λ (c : Contour). length c.points.items) (take l.contour-index l.contour-items)) (2 ^ 64 - 1)
