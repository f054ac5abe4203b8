use Rattle.std.proofs.Common.{◌≡◌, ◌∙◌, ◌+◌, ◌<◌, length, map, get_or, ap, ap₂, refl, sym, subst, arith, List, Bool, Vec, ℕ, All}
use Rattle.std.specs.Global.{Global}
use Rattle.std.proofs.lemmas.List.{length-map}
use Rattle.section_core.specs.declared.parts.Contour.{Contour}
use Rattle.section_core.specs.declared.parts.Section.{Section}
use Rattle.section_core.specs.Parts.{Parts}
use Rattle.section_core.specs.ValidSections.{AreValidSections}
use Rattle.section_core.specs.Views.{section_parts}
use Rattle.correspondence.specs.Outlines.{Layer, held_layer, layer_at}
use Rattle.correspondence.specs.Graphs.{table_of, cell}
use Rattle.correspondence.proofs.Held.{kept_flat, layer_read}
use Rattle.correspondence.proofs.GapReads.{rows_columns}
use Rattle.section_pairs.specs.Pairs.{pair_parts}
use Rattle.section_slices.specs.Densified.{dense_links, marked_links, of_dense, of_other}
use Rattle.section_slices.proofs.SectionReads.{count_is}
use Rattle.section_slices.proofs.Corresponding.{marks}
use Rattle.section_slices.proofs.LinkReads.{within}
use Rattle.section_slices.proofs.links.gap_links.Goals as goal

-- the layer of a section that the code reads
read : (S : Parts) (ss : List Section) (k : ℕ) (s : Section) → map section_parts ss ≡ S.sections → AreValidSections ss
    → k < length S.sections → s ≡ get_or ss k s → layer_at S k ≡ held_layer s
read S ss k s e h l r = layer_read ss S k s e (kept_flat ss h) (omega (arith, l, count_is S ss e))
    ∙ ap held_layer (sym r)

pub dense_links-requires-clause-within : goal.dense_links-requires-clause-within
dense_links-requires-clause-within c =
    let S = c.args.sections.now in
    let g = c.args.gap in
    let all = c.sections-all in
    within S c.args.pairs.now g c.index-all-gap.result c.index-all-gap-2.result c.requires.pairs
    (read S all.result.now g c.index-all-gap.result all.ensures.parts all.ensures.kept (omega (arith, c.requires.gap))
    c.index-all-gap.is)
    (read S all.result.now (g + 1) c.index-all-gap-2.result all.ensures.parts all.ensures.kept c.requires.gap
    c.index-all-gap-2.is)

pub marked_links-requires-clause-columns : goal.marked_links-requires-clause-columns
marked_links-requires-clause-columns c =
    let m = length c.index-all-gap-2.result.contours.items in
    subst (All (λ (v : Vec Bool Global). length v.items ≡ m)) (sym c.deref.ensures.value)
    (rows_columns c.in_ok-marks.marks.items (length c.index-all-gap.result.contours.items) m _
    (c.in_ok-marks.ensures c.args.sections.now.links c.requires.table))

pub returns-then-marked : goal.returns-then-marked
returns-then-marked c =
    let S = c.args.sections.now in
    let g = c.args.gap in
    let all = c.sections-all in
    let ps = map pair_parts c.args.pairs.now in
    let el = read S all.result.now g c.index-all-gap.result all.ensures.parts all.ensures.kept
    (omega (arith, c.requires.gap)) c.index-all-gap.is in
    let eh = read S all.result.now (g + 1) c.index-all-gap-2.result all.ensures.parts all.ensures.kept c.requires.gap
    c.index-all-gap-2.is in
    of_dense (sym c.requires.dense ∙ c.if-marked.true)
    (c.in_ok-linked.ensures ∙ ap₂ (λ (x y : Layer). dense_links x y ps g) (sym el) (sym eh))

pub returns : goal.returns
returns c =
    let S = c.args.sections.now in
    let g = c.args.gap in
    let all = c.sections-all in
    let low = c.index-all-gap.result in
    let high = c.index-all-gap-2.result in
    let el = read S all.result.now g low all.ensures.parts all.ensures.kept (omega (arith, c.requires.gap))
    c.index-all-gap.is in
    let eh = read S all.result.now (g + 1) high all.ensures.parts all.ensures.kept c.requires.gap c.index-all-gap-2.is
    in
    let table = table_of c.in_ok-marks.marks.items in
    of_other (sym c.requires.dense ∙ c.if-marked.false) (cell table)
    (marks S g (length low.contours.items) (length high.contours.items) c.rule.result S.links (held_layer low)
    (held_layer high) table el eh c.rule.ensures refl
    (sym (length-map low.contours.items (λ (k : Contour). k.name)))
    (sym (length-map high.contours.items (λ (k : Contour). k.name)))
    (c.in_ok-marks.ensures S.links c.requires.table))
    (c.in_ok-links.ensures ∙ ap (λ (rows : List (Vec Bool Global)).
    marked_links (held_layer low) (held_layer high) (cell (table_of rows))) c.deref.ensures.value
    ∙ ap₂ (λ (x y : Layer). marked_links x y (cell table)) (sym el) (sym eh))

pub marked_links-requires-clause-rows : goal.marked_links-requires-clause-rows
marked_links-requires-clause-rows c = omega (
  arith,
  ap length c.deref.ensures.value,
  length-map c.in_ok-marks.marks.items (λ (v : Vec Bool Global). v.items),
  (c.in_ok-marks.ensures c.args.sections.now.links c.requires.table).rows,
)
