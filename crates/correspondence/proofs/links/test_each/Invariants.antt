use Rattle.std.proofs.Common.{map, take}
use Rattle.section_core.specs.Views.{link_parts}
use Rattle.correspondence.specs.Links.{AreGood}
use Rattle.correspondence.specs.Named.{AreLinkedNames}
use Rattle.correspondence.proofs.links.test_each.Given as goal

abbrev pub invariant-loop-link : goal.invariant-loop-link
invariant-loop-link l = record {
  good : AreGood l.sections l.link-index;
  linked_names : AreLinkedNames l.linked_names.keys (map link_parts (take l.link-index l.links));
}
