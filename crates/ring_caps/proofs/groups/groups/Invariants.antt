use Rattle.std.proofs.Common.{◌≡◌, map, filter, length}
use Rattle.std.specs.List.{range_with_len}
use Rattle.ring_caps.specs.Groups.{begins, group}
use Rattle.ring_caps.specs.Held.{capped_by, parent_by, lists}
use Rattle.ring_caps.proofs.groups.groups.Given as goal

abbrev pub invariant-loop-place : goal.invariant-loop-place
invariant-loop-place l = lists l.groups.items
    ≡ map (group (capped_by l.joined) (parent_by l.parents) (length l.parents))
    (filter (begins (capped_by l.joined) (parent_by l.parents)) (range_with_len 0 l.place))
