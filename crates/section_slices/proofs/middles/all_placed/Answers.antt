use Rattle.std.proofs.Common.{◌∙◌, ℤ, map, ap, w32, to_z, of_z}
use Rattle.std.proofs.Math.Facts.{to_z-of_z}
use Rattle.section_core.specs.Views.{placed}
use Rattle.fku_types.proofs.LoopSteps.{mapped_next, mapped_all}
use Rattle.section_slices.proofs.middles.all_placed.Goals as goal

pub loop-spot-preserved : goal.loop-spot-preserved
loop-spot-preserved c =
    mapped_next (placed (to_z w32 (of_z w32 c.args.z))) c.args.spots.now c.loop-spot.spot-index _ c.placed.result
    c.loop-spot.points.items c.push.new.self.items c.loop-spot-test.true c.loop-spot.invariant c.placed.ensures
    c.in_ok-push.ensures.items

pub returns : goal.returns
returns c =
    mapped_all (placed (to_z w32 (of_z w32 c.args.z))) c.args.spots.now c.loop-spot.spot-index c.loop-spot.points.items
    c.loop-spot-test.false c.loop-spot.invariant
    ∙ ap (λ (z : ℤ). map (placed z) c.args.spots.now) (to_z-of_z c.ranges.z)
