use Rattle.std.proofs.Common.{◌≡◌, ◌∷◌, filter}
use Rattle.std.specs.List.{range_with_len}
use Rattle.ring_caps.specs.Groups.{joins_group}
use Rattle.ring_caps.specs.Held.{capped_by, parent_by}
use Rattle.ring_caps.proofs.groups.group.Given as goal

abbrev pub invariant-loop-place : goal.invariant-loop-place
invariant-loop-place l = l.places.items ≡ l.head
    ∷ filter (joins_group (capped_by l.joined) (parent_by l.parents) l.head) (range_with_len 0 l.place)
