use Rattle.std.proofs.Common.{◌≡◌, ◌++◌, take, drop, map, swap}
use Rattle.ring_polygons.proofs.capping.exchange.Given as goal

abbrev pub invariant-loop-triangle : goal.invariant-loop-triangle
invariant-loop-triangle l = l.triangles ≡ map (λ t. swap t 1 2) (take l.triangle-index l.fn.triangles)
    ++ drop l.triangle-index l.fn.triangles
