use Rattle.std.proofs.Common.{◌∙◌, ◌+◌, ◌-◌, map, ap, sym, subst, arith}
use Rattle.std.proofs.lemmas.List.{map-append}
use Rattle.section_core.specs.Views.{link_parts}
use Rattle.section_pairs.specs.Pairs.{pair_parts}
use Rattle.section_pairs.proofs.SectionRings.{some_section}
use Rattle.section_slices.proofs.DenseGaps.{marked, count_marks}
use Rattle.section_slices.proofs.SectionReads.{count_is}
use Rattle.section_slices.proofs.LinkLists.{AreFrontLinks, no_gap, one_gap, all_gaps}
use Rattle.section_slices.proofs.links.all_links.Goals as goal

pub loop-above-init : goal.loop-above-init
loop-above-init c =
    let S = c.args.sections.now in
    let ps = map pair_parts c.args.pairs.now in
    subst (AreFrontLinks S ps 0) (sym (ap (map link_parts) c.new-links.ensures.items)) (no_gap S ps)

pub bounds-dense-above : goal.bounds-dense-above
bounds-dense-above c =
    let S = c.args.sections.now in
    omega (
      arith,
      c.loop-above-test.true,
      c.loop-above.auto.above,
      count_is S c.sections-count.result.now c.sections-count.ensures.parts,
      count_marks S (map pair_parts c.args.pairs.now) c.args.dense.now c.requires.dense,
    )

pub gap_links-requires-clause-dense : goal.gap_links-requires-clause-dense
gap_links-requires-clause-dense c =
    let S = c.args.sections.now in
    marked S (map pair_parts c.args.pairs.now) c.args.dense.now _ _ c.requires.dense
    (omega (
      arith,
      c.loop-above-test.true,
      c.loop-above.auto.above,
      count_is S c.sections-count.result.now c.sections-count.ensures.parts,
    ))

pub loop-above-preserved : goal.loop-above-preserved
loop-above-preserved c =
    let S = c.args.sections.now in
    let ps = map pair_parts c.args.pairs.now in
    let n = c.loop-above.above in
    let old = c.loop-above.links.items in
    let more = c.in_ok-more.more.items in
    one_gap S ps (n - 1) (n + 1 - 1) (map link_parts old) (map link_parts more) (map link_parts c.append.new.self.items)
    c.loop-above.invariant c.in_ok-more.ensures
    (ap (map link_parts) c.in_ok-append.ensures.items ∙ map-append link_parts old more)
    (omega (arith, c.loop-above.auto.above))

pub returns : goal.returns
returns c =
    let S = c.args.sections.now in
    let ps = map pair_parts c.args.pairs.now in
    all_gaps S ps (c.loop-above.above - 1) (map link_parts c.loop-above.links.items)
    (omega (
      arith,
      c.loop-above-test.false,
      c.loop-above.auto.above,
      c.loop-above.auto.above-end,
      some_section c.sections-count.result.now c.sections-count.ensures.kept,
      count_is S c.sections-count.result.now c.sections-count.ensures.parts,
    ))
    c.loop-above.invariant
