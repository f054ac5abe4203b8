use Rattle.std.proofs.Common.{◌≡◌, take, length, sum_by}
use Rattle.correspondence.specs.Contours.{points_of}
use Rattle.section_pairs.proofs.rings.count_vertices.Given as goal

abbrev pub invariant-loop-contour : goal.invariant-loop-contour
invariant-loop-contour l = l.count ≡ sum_by (λ c. length (points_of c)) (take l.contour-index l.section.contours.items)
