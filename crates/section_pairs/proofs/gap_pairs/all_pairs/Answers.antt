use Rattle.std.proofs.Common.{◌-◌, ℕ, ap, subst, arith}
use Rattle.section_pairs.specs.Ranges.{IsGapResult}
use Rattle.section_pairs.proofs.SectionRings.{count_is, some_section}
use Rattle.section_pairs.proofs.gap_pairs.all_pairs.Goals as goal

pub overflow_sub-count : goal.overflow_sub-count
overflow_sub-count c = omega (arith, some_section c.sections-count.result.now c.sections-count.ensures.kept)

pub pairs_in-requires-clause-there : goal.pairs_in-requires-clause-there
pairs_in-requires-clause-there c =
    let all = c.sections-count.result.now in
    let read = c.sections-count.ensures in
    omega (arith, some_section all read.kept, count_is all c.args.sections.now.sections read.«data»)

pub returns : goal.returns
returns c =
    let S = c.args.sections.now in
    subst (λ (e : ℕ). IsGapResult S 0 e c.pairs_in.result)
    (ap (λ (n : ℕ). n - 1) (count_is c.sections-count.result.now S.sections c.sections-count.ensures.«data»))
    c.pairs_in.ensures
