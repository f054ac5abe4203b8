use Rattle.std.proofs.Common.{◌-◌, map}
use Rattle.section_core.specs.Views.{link_parts}
use Rattle.section_pairs.specs.Pairs.{pair_parts}
use Rattle.section_slices.proofs.LinkLists.{AreFrontLinks}
use Rattle.section_slices.proofs.links.all_links.Given as goal

abbrev pub invariant-loop-above : goal.invariant-loop-above
invariant-loop-above l = AreFrontLinks l.sections (map pair_parts l.pairs) (l.above - 1) (map link_parts l.links.items)
