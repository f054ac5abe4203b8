use Rattle.std.proofs.Common.{Bor, refl}
use Rattle.fku_types.proofs.LoopSteps.{image_next, image_all}
use Rattle.strip_graph.specs.Strips.{Strip}
use Rattle.section_pairs.specs.Pairs.{PairParts, pair_parts}
use Rattle.surface_core.proofs.surfaces.strips.Goals as goal

pub loop-pair-preserved : goal.loop-pair-preserved
loop-pair-preserved c = image_next (λ (b : Bor Strip). b.now) pair_parts (λ (p : PairParts). p.strip) c.args.pairs.now
    c.loop-pair.pair-index c.pair-item.result _ c.loop-pair.strips.items c.push.new.self.items c.loop-pair-test.true
    c.pair-item.is c.loop-pair.invariant refl c.in_ok-push.ensures.items

pub returns : goal.returns
returns c = image_all (λ (b : Bor Strip). b.now) pair_parts (λ (p : PairParts). p.strip) c.args.pairs.now
    c.loop-pair.pair-index c.loop-pair.strips.items c.loop-pair-test.false c.loop-pair.invariant
