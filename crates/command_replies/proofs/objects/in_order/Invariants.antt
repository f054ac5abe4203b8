use Rattle.std.proofs.Common.{◌≡◌, ◌++◌, length, map}
use Rattle.surface_core.specs.Objects.{numbered, pair_lists}
use Rattle.section_pairs.specs.Pairs.{pair_parts}
use Rattle.command_replies.proofs.objects.in_order.Given as goal

abbrev pub invariant-loop-list : goal.invariant-loop-list
invariant-loop-list l = record {
  pairs : map pair_parts l.all.items ++ numbered (pair_lists l.list-iterator.rest.items)
      ≡ numbered (pair_lists l.fn.lists.items);
  left : l.list-iterator.rest.len ≡ length l.list-iterator.rest.items;
}
