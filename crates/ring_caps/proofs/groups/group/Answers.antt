use Rattle.ring_caps.specs.Groups.{joins_group}
use Rattle.ring_caps.specs.Held.{capped_by, parent_by}
use Rattle.ring_caps.proofs.GroupLists.{places_more}
use Rattle.ring_caps.proofs.groups.group.Goals as goal

pub loop-place-preserved : goal.loop-place-preserved
loop-place-preserved c =
    places_more (joins_group (capped_by c.args.joined.now) (parent_by c.args.parents.now) c.args.head) c.args.head
    c.loop-place.place c.loop-place.places.items c.add_place.new.places.items c.loop-place.invariant
    c.in_ok-add_place.ensures
