use Rattle.std.proofs.Common.{◌+◌, ◌∙◌, ℕ, refl, sym, subst, arith}
use Rattle.section_pairs.specs.Ranges.{IsGapResult}
use Rattle.section_pairs.proofs.SectionRings.{count_is, some_section}
use Rattle.section_pairs.proofs.RangeLaws.{none_held}
use Rattle.section_pairs.proofs.Runs.{next_begin, gap_here}
use Rattle.section_pairs.proofs.kept_pairs.all_gap_pairs.Goals as goal

pub overflow_sub-gap-end : goal.overflow_sub-gap-end
overflow_sub-gap-end c = omega (arith, some_section c.sections-count.result.now c.sections-count.ensures.kept)

pub loop-gap-init : goal.loop-gap-init
loop-gap-init c = record {
  begin = omega arith;
  known = λ gaps are e. e;
  from = refl;
  to = refl;
  found = none_held c.args.sections.now 0 c.new.result.items c.new.ensures.items;
}

pub gap_pairs-more-requires-clause-there : goal.gap_pairs-more-requires-clause-there
gap_pairs-more-requires-clause-there c =
    let all = c.sections-count.result.now in
    omega (arith, c.loop-gap-test.true, count_is all c.args.sections.now.sections c.sections-count.ensures.«data»)

pub gap_pairs-more-requires-clause-known : goal.gap_pairs-more-requires-clause-known
gap_pairs-more-requires-clause-known c = λ there.
    let run = c.run_end-end.ensures in
    gap_here c.args.old.now c.args.old_pairs.now c.loop-gap.gap c.loop-gap.begin c.run_end-end.result c.requires.old
    c.loop-gap.invariant.known run.begin run.end run.run run.stop there

pub gap_pairs-more-requires-clause-same : goal.gap_pairs-more-requires-clause-same
gap_pairs-more-requires-clause-same c = λ t. c.requires.same c.loop-gap.gap (sym c.is_marked-mark.ensures ∙ t)

pub loop-gap-preserved : goal.loop-gap-preserved
loop-gap-preserved c =
    let run = c.run_end-end.ensures in
    let inv = c.loop-gap.invariant in
    let g = c.loop-gap.gap in
    record {
      begin = run.end;
      known = next_begin c.args.old.now c.args.old_pairs.now g c.loop-gap.begin c.run_end-end.result inv.known run.begin
          run.end run.run run.stop;
      from = c.next_shift-high.ensures.from;
      to = c.next_shift-high.ensures.to;
      found = c.joined-found.ensures c.args.sections.now 0 g (g + 1) inv.found c.gap_pairs-more.ensures;
    }

pub returns : goal.returns
returns c =
    let S = c.args.sections.now in
    let count = count_is c.sections-count.result.now S.sections c.sections-count.ensures.«data» in
    subst (λ (e : ℕ). IsGapResult S 0 e c.loop-gap.found)
    (omega (arith, c.loop-gap-test.false, c.loop-gap.auto.gap-end, count)) c.loop-gap.invariant.found
