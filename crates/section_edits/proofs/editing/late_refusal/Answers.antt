use Rattle.std.proofs.Common.{map, sym, ap, ◌∙◌, arith}
use Rattle.std.specs.Prelude.{not}
use Rattle.std.proofs.lemmas.Bool.{cond-true, cond-false}
use Rattle.fku_types.specs.declared.limits.TheConstants.{MAX_CONTOURS, MAX_VERTICES}
use Rattle.section_core.specs.Views.{section_parts}
use Rattle.section_edits.specs.LateTests.{vertex_count, contour_count}
use Rattle.section_edits.proofs.Answering.{shorts_held, smalls_held, is_over, not_over}
use Rattle.section_edits.proofs.editing.late_refusal.Goals as goal

pub returns-then-not-are_short : goal.returns-then-not-are_short
returns-then-not-are_short c =
    let short = shorts_held c.args.sections.now ∙ sym c.are_short.ensures ∙ c.if-not-are_short.true in
    sym (cond-true _ _ _ (ap not short))

pub returns-then-not-are_small : goal.returns-then-not-are_small
returns-then-not-are_small c =
    let short = shorts_held c.args.sections.now ∙ sym c.are_short.ensures ∙ c.if-not-are_short.false in
    let small = smalls_held c.args.sections.now ∙ sym c.are_small.ensures ∙ c.if-not-are_small.true in
    sym (cond-false _ _ _ (ap not short) ∙ cond-true _ _ _ (ap not small))

pub returns-then-all_vertices : goal.returns-then-all_vertices
returns-then-all_vertices c =
    let parts = map section_parts c.args.sections.now in
    let short = shorts_held c.args.sections.now ∙ sym c.are_short.ensures ∙ c.if-not-are_short.false in
    let small = smalls_held c.args.sections.now ∙ sym c.are_small.ensures ∙ c.if-not-are_small.false in
    let over = is_over (vertex_count parts) c.all_vertices.result MAX_VERTICES c.all_vertices.ensures
    c.if-all_vertices.true in
    sym (cond-false _ _ _ (ap not short) ∙ cond-false _ _ _ (ap not small) ∙ cond-true _ _ _ over)

pub returns-then-all_contours-gt-MAX_CONTOURS : goal.returns-then-all_contours-gt-MAX_CONTOURS
returns-then-all_contours-gt-MAX_CONTOURS c =
    let parts = map section_parts c.args.sections.now in
    let short = shorts_held c.args.sections.now ∙ sym c.are_short.ensures ∙ c.if-not-are_short.false in
    let small = smalls_held c.args.sections.now ∙ sym c.are_small.ensures ∙ c.if-not-are_small.false in
    let few = not_over (vertex_count parts) c.all_vertices.result MAX_VERTICES c.all_vertices.ensures
    c.if-all_vertices.false (omega arith) in
    let more = is_over (contour_count parts) c.all_contours.result MAX_CONTOURS c.all_contours.ensures
    c.if-all_contours-gt-MAX_CONTOURS.true in
    sym (cond-false _ _ _ (ap not short) ∙ cond-false _ _ _ (ap not small) ∙ cond-false _ _ _ few
    ∙ cond-true _ _ _ more)

pub returns : goal.returns
returns c =
    let parts = map section_parts c.args.sections.now in
    let short = shorts_held c.args.sections.now ∙ sym c.are_short.ensures ∙ c.if-not-are_short.false in
    let small = smalls_held c.args.sections.now ∙ sym c.are_small.ensures ∙ c.if-not-are_small.false in
    let few = not_over (vertex_count parts) c.all_vertices.result MAX_VERTICES c.all_vertices.ensures
    c.if-all_vertices.false (omega arith) in
    let fewer = not_over (contour_count parts) c.all_contours.result MAX_CONTOURS c.all_contours.ensures
    c.if-all_contours-gt-MAX_CONTOURS.false (omega arith) in
    c.none_left.ensures ∙ sym (cond-false _ _ _ (ap not short) ∙ cond-false _ _ _ (ap not small) ∙ cond-false _ _ _ few
    ∙ cond-false _ _ _ fewer)
