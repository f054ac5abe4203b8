use Rattle.std.proofs.Common.{length}
use Rattle.ring_caps.specs.Groups.{begins, group}
use Rattle.ring_caps.specs.Held.{capped_by, parent_by, lists}
use Rattle.ring_caps.proofs.GroupLists.{groups_more}
use Rattle.ring_caps.proofs.groups.groups.Goals as goal

pub loop-place-preserved : goal.loop-place-preserved
loop-place-preserved c =
    let joined = c.args.joined.now in
    let parents = c.args.parents.now in
    groups_more (begins (capped_by joined) (parent_by parents))
    (group (capped_by joined) (parent_by parents) (length parents)) c.loop-place.place
    (lists c.loop-place.groups.items) (lists c.add_group.new.groups.items) c.loop-place.invariant
    c.in_ok-add_group.ensures
