use Rattle.std.proofs.Common.{◌≡◌, ◌++◌, take, flat_map}
use Rattle.correspondence.specs.Contours.{points_of}
use Rattle.surface_core.proofs.assembly.add_points.Given as goal

abbrev pub invariant-loop-contour : goal.invariant-loop-contour
invariant-loop-contour l = l.points.items ≡ l.initial.points.items
    ++ flat_map points_of (take l.contour-index l.section.contours.items)
