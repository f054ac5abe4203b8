use Rattle.ring_polygons.proofs.Nearest.{LeastSoFar}
use Rattle.ring_polygons.proofs.bridges.first_of.Given as goal

abbrev pub invariant-loop-c : goal.invariant-loop-c
invariant-loop-c l = LeastSoFar l.nears l.c l.least
