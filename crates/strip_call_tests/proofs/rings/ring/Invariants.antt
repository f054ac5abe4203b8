use Rattle.std.proofs.Common.{◌≡◌, length}
use Rattle.strip_call_tests.proofs.rings.ring.Given as goal

abbrev pub invariant-loop-x : goal.invariant-loop-x
invariant-loop-x l = length l.points.items ≡ length l.ids.items
