use Rattle.std.proofs.Common.{◌∙◌, List, length, map, sym, ap, arith}
use Rattle.std.proofs.lemmas.List.Concat.{length-flat_map}
use Rattle.section_core.specs.declared.parts.Section.{Section}
use Rattle.surface_commands.proofs.ReportLemmas.{contours_counted}
use Rattle.section_core.specs.Objects.{object_parts}
use Rattle.section_core.specs.Parts.{ObjectParts, SectionParts, all_sections, contours_of}
use Rattle.surface_commands.proofs.ObjectCounts.{few_contours, contours_next}
use Rattle.surface_commands.proofs.reporting.count_contours.Goals as goal

pub contours_in-count-requires : goal.contours_in-count-requires
contours_in-count-requires c = omega (
  arith,
  length-flat_map (λ (s : Section). s.contours.items) c.sections.result.now,
  c.sections.ensures.kept.few_contours,
)

pub overflow_add-count : goal.overflow_add-count
overflow_add-count c =
    let F = c.args.objects.now in
    let items = c.items-object-items.result.now in
    let same = ap (λ (os : List ObjectParts). length (contours_of (all_sections os))) c.items-object-items.ensures.parts
    in
    let next = contours_next items c.loop-object.object-index c.loop-object.count (c.contours_in-count.result)
    (length (contours_of (all_sections (map object_parts items)))) c.object-item.result c.loop-object-test.true
    c.object-item.is (c.contours_in-count.ensures ∙ sym (contours_counted c.sections.result.now)
    ∙ ap (λ (ss : List SectionParts). length (contours_of ss)) c.sections.ensures.parts) c.loop-object.invariant in
    omega (arith, next, same, few_contours F c.items-object-items.ensures.accepted.lawful)

pub loop-object-preserved : goal.loop-object-preserved
loop-object-preserved c =
    let items = c.items-object-items.result.now in
    contours_next items c.loop-object.object-index c.loop-object.count (c.contours_in-count.result)
    (length (contours_of (all_sections (map object_parts items)))) c.object-item.result c.loop-object-test.true
    c.object-item.is (c.contours_in-count.ensures ∙ sym (contours_counted c.sections.result.now)
    ∙ ap (λ (ss : List SectionParts). length (contours_of ss)) c.sections.ensures.parts) c.loop-object.invariant
