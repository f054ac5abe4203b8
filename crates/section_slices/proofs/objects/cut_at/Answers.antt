use Rattle.std.proofs.Common.{◌≡◌, ◌-ℤ◌, ℤ, pos, Bor, sym, subst, arith, rules, to_z-of_z}
use Rattle.std.proofs.lemmas.List.{length-map}
use Rattle.correspondence.specs.Outlines.{section_at}
use Rattle.strip_graph.specs.Strips.{Strip}
use Rattle.pair_pool.specs.Solvers.{referents}
use Rattle.section_slices.specs.Slices.{IsGapAt, IsHeightFault}
use Rattle.section_slices.proofs.ObjectSlices.{lies_outside, no_strips, slice_is}
use Rattle.section_slices.proofs.objects.cut_at.Goals as goal

pub returns-in_ok-loops-in-Ok-clause-cut : goal.returns-in_ok-loops-in-Ok-clause-cut
returns-in_ok-loops-in-Ok-clause-cut c =
    let S = c.args.sections.now in
    let gap = c.in-Ok.gap in
    let says = c.in-Ok.ensures in
    let same = to_z-of_z c.ranges.z in
    slice_is c.args.z S (referents c.args.strips.now) c.args.solved.now gap.index gap.den gap.part _ c.requires.strips
    (subst (λ (z : ℤ). IsGapAt S z gap.index) same says.gap)
    (λ k at. says.one k (subst (λ (z : ℤ). IsGapAt S z k) (sym same) at))
    c.requires.solved says.den (subst (λ (z : ℤ). pos gap.part ≡ z -ℤ (section_at S gap.index).z) same says.part)
    (search rules) c.in_ok-loops-in-Ok.ensures.loops

pub returns-in-Err-clause-cut : goal.returns-in-Err-clause-cut
returns-in-Err-clause-cut c =
    let S = c.args.sections.now in
    let fault = c.in-Err.field-0 in
    lies_outside S c.args.z fault c.requires.height
    (subst (λ (z : ℤ). IsHeightFault S z fault) (to_z-of_z c.ranges.z) c.in-Err.ensures.fault)

pub returns-in-Err-clause-count : goal.returns-in-Err-clause-count
returns-in-Err-clause-count c =
    let S = c.args.sections.now in
    let none = no_strips c.args.z S (referents c.args.strips.now) c.requires.strips
    (λ g at. c.in-Err.ensures.no_gap g (subst (λ (z : ℤ). IsGapAt S z g) (sym (to_z-of_z c.ranges.z)) at)) in
    omega (arith, none, length-map c.args.strips.now (λ (p : Bor Strip). p.now))
