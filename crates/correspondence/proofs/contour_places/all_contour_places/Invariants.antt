use Rattle.std.proofs.Common.{map, bytes_eq}
use Rattle.std.specs.HashMap.{get}
use Rattle.correspondence.specs.Outlines.{held_names}
use Rattle.correspondence.specs.Links.{contour_places}
use Rattle.correspondence.specs.Named.{Finds}
use Rattle.correspondence.proofs.contour_places.all_contour_places.Given as goal

abbrev pub invariant-loop-section : goal.invariant-loop-section
invariant-loop-section l = Finds (get bytes_eq l.contour_places) (map held_names l.sections)
    (contour_places (map held_names l.sections) l.section)
