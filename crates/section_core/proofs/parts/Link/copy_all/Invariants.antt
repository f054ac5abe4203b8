use Rattle.std.proofs.Common.{◌≡◌, map, take}
use Rattle.section_core.specs.Views.{link_parts}
use Rattle.section_core.proofs.parts.Link.copy_all.Given as goal

abbrev pub invariant-loop-link : goal.invariant-loop-link
invariant-loop-link l = map link_parts l.copied.items ≡ map link_parts (take l.link-index l.links)
