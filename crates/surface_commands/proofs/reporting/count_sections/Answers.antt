use Rattle.std.proofs.Common.{◌∙◌, List, length, map, sym, ap, arith}
use Rattle.std.proofs.lemmas.List.{length-map}
use Rattle.section_core.specs.Views.{section_parts}
use Rattle.section_core.specs.Objects.{object_parts}
use Rattle.section_core.specs.Parts.{ObjectParts, all_sections}
use Rattle.surface_commands.proofs.ObjectCounts.{few_sections, sections_next}
use Rattle.surface_commands.proofs.reporting.count_sections.Goals as goal

pub overflow_add-count : goal.overflow_add-count
overflow_add-count c =
    let F = c.args.objects.now in
    let items = c.items-object-items.result.now in
    let same = ap (λ (os : List ObjectParts). length (all_sections os)) c.items-object-items.ensures.parts in
    let next = sections_next items c.loop-object.object-index c.loop-object.count (length c.sections.result.now)
    (length (all_sections (map object_parts items))) c.object-item.result c.loop-object-test.true c.object-item.is
    (sym (length-map c.sections.result.now section_parts) ∙ ap length c.sections.ensures.parts)
    c.loop-object.invariant in
    omega (arith, next, same, few_sections F c.items-object-items.ensures.accepted.lawful)

pub loop-object-preserved : goal.loop-object-preserved
loop-object-preserved c =
    let items = c.items-object-items.result.now in
    sections_next items c.loop-object.object-index c.loop-object.count (length c.sections.result.now)
    (length (all_sections (map object_parts items))) c.object-item.result c.loop-object-test.true c.object-item.is
    (sym (length-map c.sections.result.now section_parts) ∙ ap length c.sections.ensures.parts)
    c.loop-object.invariant
