use Rattle.std.proofs.Common.{◌≡◌, map, take}
use Rattle.std.specs.Prelude.{filter, not}
use Rattle.section_core.specs.Parts.{LinkParts}
use Rattle.section_core.specs.Views.{link_parts}
use Rattle.section_edits.specs.Changes.{names_it}
use Rattle.section_edits.proofs.changes.without_links.Given as goal

abbrev pub invariant-loop-link : goal.invariant-loop-link
invariant-loop-link l = map link_parts l.kept.items
    ≡ filter (λ (k : LinkParts). not (names_it l.name k)) (map link_parts (take l.link-index l.links))
