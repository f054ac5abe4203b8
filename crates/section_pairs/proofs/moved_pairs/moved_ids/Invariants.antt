use Rattle.std.proofs.Common.{◌≡◌, map, take}
use Rattle.section_pairs.specs.Unchanged.{moved_id}
use Rattle.section_pairs.proofs.moved_pairs.moved_ids.Given as goal

abbrev pub invariant-loop-id : goal.invariant-loop-id
invariant-loop-id l = l.moved.items ≡ map (moved_id l.shift) (take l.id-index l.ids)
