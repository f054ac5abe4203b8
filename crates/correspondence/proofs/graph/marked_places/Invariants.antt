use Rattle.std.proofs.Common.{◌≡◌, filter}
use Rattle.std.specs.List.{range_with_len}
use Rattle.correspondence.specs.Graphs.{mark}
use Rattle.correspondence.proofs.graph.marked_places.Given as goal

abbrev pub invariant-loop-place : goal.invariant-loop-place
invariant-loop-place l = l.places.items ≡ filter (mark l.marks) (range_with_len 0 l.place)
