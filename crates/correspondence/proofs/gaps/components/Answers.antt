use Rattle.std.proofs.Common.{◌≡◌, ◌∙◌, ◌+◌, length, map, get_or, ap, refl, sym, subst, subst₂, arith, ℕ, List, Bool, Vec}
use Rattle.std.specs.Global.{Global}
use Rattle.std.proofs.lemmas.List.{length-map}
use Rattle.section_core.specs.Views.{section_parts}
use Rattle.correspondence.specs.Contours.{points_of}
use Rattle.correspondence.proofs.Nested.{few_contours}
use Rattle.correspondence.specs.Outlines.{held_layer, layer_at}
use Rattle.correspondence.specs.Graphs.{table_of, cell_links}
use Rattle.correspondence.specs.Components.{AreComponents}
use Rattle.correspondence.specs.Gaps.{members_of}
use Rattle.correspondence.proofs.Held.{kept_flat, layer_read}
use Rattle.correspondence.proofs.GapReads.{rows_columns, gap_components, section_within}
use Rattle.correspondence.proofs.gaps.components.Goals as goal

pub agreement-requires-clause-low : goal.agreement-requires-clause-low
agreement-requires-clause-low c =
    let e = c.sections-all.ensures in
    section_within c.sections-all.result.now c.args.sections.now c.args.gap c.index-all-gap.result e.parts
    (kept_flat c.sections-all.result.now e.kept) e.accepted (omega arith) c.index-all-gap.is

pub agreement-requires-clause-high : goal.agreement-requires-clause-high
agreement-requires-clause-high c =
    let e = c.sections-all.ensures in
    section_within c.sections-all.result.now c.args.sections.now (c.args.gap + 1) c.index-all-gap-2.result e.parts
    (kept_flat c.sections-all.result.now e.kept) e.accepted (omega arith) c.index-all-gap-2.is

pub all_components-requires-clause-columns : goal.all_components-requires-clause-columns
all_components-requires-clause-columns c k d l =
    let high = c.index-all-gap-2.result in
    let all = rows_columns c.in_ok-rows.rows.items (length c.index-all-gap.result.contours.items)
    (length high.contours.items) _ (c.in_ok-rows.ensures c.args.sections.now.links c.requires.table) in
    ap (λ (rows : List (Vec Bool Global)). length (get_or rows k d).items) c.deref.ensures.value
    ∙ all k d (omega (arith, l, ap length c.deref.ensures.value)) ∙ sym (c.len.ensures ∙ high.contours.ok.0)

pub all_components-requires-clause-few : goal.all_components-requires-clause-few
all_components-requires-clause-few c =
    let low = few_contours c.index-all-gap.result.contours.items
    (section_within c.sections-all.result.now c.args.sections.now c.args.gap c.index-all-gap.result
    c.sections-all.ensures.parts (kept_flat c.sections-all.result.now c.sections-all.ensures.kept)
    c.sections-all.ensures.accepted (omega arith) c.index-all-gap.is) in
    let high = few_contours c.index-all-gap-2.result.contours.items
    (section_within c.sections-all.result.now c.args.sections.now (c.args.gap + 1) c.index-all-gap-2.result
    c.sections-all.ensures.parts (kept_flat c.sections-all.result.now c.sections-all.ensures.kept)
    c.sections-all.ensures.accepted (omega arith) c.index-all-gap-2.is) in
    omega (
      arith,
      low,
      high,
      c.len.ensures,
      c.index-all-gap-2.result.contours.ok.0,
      (c.in_ok-rows.ensures c.args.sections.now.links c.requires.table).rows,
      length-map c.in_ok-rows.rows.items (λ (v : Vec Bool Global). v.items),
      ap length c.deref.ensures.value,
    )

pub returns : goal.returns
returns c =
    let S = c.args.sections.now in
    let g = c.args.gap in
    let all = c.sections-all in
    let low = c.index-all-gap.result in
    let high = c.index-all-gap-2.result in
    let rows = c.in_ok-rows.rows.items in
    let cs = map members_of c.in_ok-all_components.field-0.items in
    let count : length all.result.now ≡ length S.sections = sym (length-map all.result.now section_parts)
    ∙ ap length all.ensures.parts in
    let el : layer_at S g ≡ held_layer low =
    layer_read all.result.now S g low all.ensures.parts (kept_flat all.result.now all.ensures.kept)
    (omega (arith, count)) ∙ ap held_layer (sym c.index-all-gap.is) in
    let eh : layer_at S (g + 1) ≡ held_layer high =
    layer_read all.result.now S (g + 1) high all.ensures.parts (kept_flat all.result.now all.ensures.kept)
    (omega (arith, count)) ∙ ap held_layer (sym c.index-all-gap-2.is) in
    let n : length c.deref.result.now ≡ length low.contours.items = ap length c.deref.ensures.value
    ∙ sym (length-map rows (λ (v : Vec Bool Global). v.items))
    ∙ (c.in_ok-rows.ensures c.args.sections.now.links c.requires.table).rows in
    let m : c.len.result ≡ length high.contours.items = c.len.ensures ∙ high.contours.ok.0 in
    let here = subst (λ (r : List (Vec Bool Global)).
    AreComponents (cell_links (table_of r)) (length c.deref.result.now) c.len.result cs) c.deref.ensures.value
    c.in_ok-all_components.ensures in
    let there = subst₂ (λ (x y : ℕ). AreComponents (cell_links (table_of rows)) x y cs) n m here in
    gap_components S g (length low.contours.items) (length high.contours.items) (table_of rows) c.rule.result S.links
    (held_layer low) (held_layer high) cs el eh c.rule.ensures refl
    (sym (length-map low.contours.items points_of)) (sym (length-map high.contours.items points_of))
    (c.in_ok-rows.ensures S.links c.requires.table) there
