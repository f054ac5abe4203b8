use Rattle.std.proofs.Common.{◌≡◌, ◌+◌, ◌∙◌, Bor, List, Vec, map, refl, sym, ap, subst, take_all}
use Rattle.std.specs.Global.{Global}
use Rattle.strip_graph.specs.Strips.{Strip}
use Rattle.pair_pool.specs.Solvers.{referents}
use Rattle.section_pairs.specs.declared.gap_pairs.GapPair.{GapPair}
use Rattle.section_pairs.specs.Pairs.{pair_parts}
use Rattle.surface_core.specs.Surfaces.{strips_in}
use Rattle.section_slices.specs.Slices.{pairs_in_gap}
use Rattle.section_slices.proofs.GapPairs.{strips_so_far, strip_taken, strip_passed}
use Rattle.section_slices.proofs.slices.gap_strips.Goals as goal
use Rattle.section_slices.proofs.slices.gap_strips.Goals.{then-pair-gap+in_ok-push, else-pair-gap}

pub loop-pair-preserved : goal.loop-pair-preserved
loop-pair-preserved c =
    let ps = c.args.pairs.now in
    let i = c.loop-pair.pair-index in
    let pair = c.pair-item.result in
    let old = c.loop-pair.strips.items in
    let new = c.if-pair-gap.strips.items in
    elim c.if-pair-gap.branch [
      | then-pair-gap+in_ok-push w ↦ subst
          (λ (v : Vec (Bor Strip) Global). referents v.items ≡ strips_so_far c.args.gap ps (i + 1)) (sym w.strips-is)
          (strip_taken c.args.gap ps i pair _ old w.push.new.self.items c.loop-pair-test.true c.pair-item.is
          w.if-pair-gap.true refl w.in_ok-push.ensures.items c.loop-pair.invariant)
      | else-pair-gap w ↦ strip_passed c.args.gap ps i pair old new c.loop-pair-test.true c.pair-item.is
          w.if-pair-gap.false (cc) c.loop-pair.invariant
    ]

pub returns : goal.returns
returns c =
    c.loop-pair.invariant
    ∙ ap (λ (qs : List GapPair). strips_in (pairs_in_gap c.args.gap (map pair_parts qs)))
    (take_all c.loop-pair.pair-index c.args.pairs.now c.loop-pair-test.false)
