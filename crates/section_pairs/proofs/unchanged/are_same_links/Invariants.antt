use Rattle.std.proofs.Common.{◌≡◌, map, take}
use Rattle.section_core.specs.Views.{link_parts}
use Rattle.section_pairs.proofs.unchanged.are_same_links.Given as goal

abbrev pub invariant-loop-place : goal.invariant-loop-place
invariant-loop-place l = map link_parts (take l.place l.one) ≡ map link_parts (take l.place l.other)
