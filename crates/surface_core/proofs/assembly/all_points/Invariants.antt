use Rattle.std.proofs.Common.{◌≡◌, take, flat_map}
use Rattle.correspondence.specs.Contours.{points_of}
use Rattle.surface_core.proofs.assembly.all_points.Given as goal

abbrev pub invariant-loop-section : goal.invariant-loop-section
invariant-loop-section l = l.points.items
    ≡ flat_map (λ s. flat_map points_of s.contours.items) (take l.section-index l.sections)
