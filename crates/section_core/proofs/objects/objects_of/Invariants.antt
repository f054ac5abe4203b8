use Rattle.std.proofs.Common.{◌≡◌, ◌++◌, map, length}
use Rattle.section_core.specs.Costs.{cost_parts}
use Rattle.section_core.specs.Finished.{AreReady}
use Rattle.section_core.specs.Objects.{object_parts, AreUnder}
use Rattle.section_core.specs.Views.{draft_parts}
use Rattle.section_core.proofs.objects.objects_of.Given as goal

abbrev pub invariant-loop-draft : goal.invariant-loop-draft
invariant-loop-draft l = record {
  objects : map object_parts l.items.items ++ map draft_parts l.draft-iterator.rest.items
      ≡ map draft_parts l.fn.drafts.items;
  under : AreUnder (cost_parts l.head.cost) l.head.rule l.items.items;
  ready : AreReady l.head l.draft-iterator.rest.items;
  left : l.draft-iterator.rest.len ≡ length l.draft-iterator.rest.items;
}
