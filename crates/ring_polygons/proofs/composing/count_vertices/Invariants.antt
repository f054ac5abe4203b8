use Rattle.std.proofs.Common.{◌≡◌, ◌+◌, ◌*◌, take, sum_by, length}
use Rattle.ring_polygons.proofs.composing.count_vertices.Given as goal

abbrev pub invariant-loop-ring : goal.invariant-loop-ring
invariant-loop-ring l = l.count ≡ sum_by (λ r. length r.points.items) (take l.ring-index l.rings) + 2 * l.ring-index
